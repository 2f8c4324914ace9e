use Rattle.std.proofs.Common.{◌⊎◌, length}
use Rattle.std.specs.List.{Contains}
use Rattle.wide_cas_register.specs.declared.row.Row.{Row}
use Rattle.wide_cas_register.specs.Facts.{AreApart, IsKeptIn}
use Rattle.wide_cas_register.proofs.left.keep_all.Given as goal

abbrev pub invariant-loop-row : goal.invariant-loop-row
invariant-loop-row l = record {
  each : (r : Row) → Contains l.rows.items r → Contains l.initial.rows.items r ⊎ Contains l.initial.more.items r;
  old : (r : Row) → Contains l.initial.rows.items r → IsKeptIn l.calls l.rows.items r;
  within : (r : Row) → Contains l.more.items r → Contains l.initial.more.items r;
  kept : (r : Row) → Contains l.initial.more.items r → Contains l.more.items r ⊎ IsKeptIn l.calls l.rows.items r;
  apart : AreApart l.calls l.initial.rows.items → AreApart l.calls l.rows.items;
}

abbrev pub decreases-loop-row : goal.decreases-loop-row
decreases-loop-row l = length l.more.items
