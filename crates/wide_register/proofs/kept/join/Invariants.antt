use Rattle.std.proofs.Common.{◌⊎◌, length}
use Rattle.std.specs.List.{Contains}
use Rattle.wide_register.specs.declared.row.Row.{Row}
use Rattle.wide_register.specs.Facts.{FindTheSame, HasLeastGaps}
use Rattle.wide_register.proofs.kept.join.Given as goal

abbrev pub invariant-loop-row : goal.invariant-loop-row
invariant-loop-row l = record {
  each : (r : Row) → Contains l.rows.items r → Contains l.initial.rows.items r
      ⊎ ((m : Row) × Contains l.initial.more.items m × FindTheSame l.moments m r × HasLeastGaps l.moments r);
  old : (r : Row) → Contains l.initial.rows.items r → Contains l.rows.items r;
  within : (r : Row) → Contains l.more.items r → Contains l.initial.more.items r;
  all : (m : Row) → Contains l.initial.more.items m → Contains l.more.items m
      ⊎ ((r : Row) × FindTheSame l.moments m r × Contains l.rows.items r);
}

abbrev pub decreases-loop-row : goal.decreases-loop-row
decreases-loop-row l = length l.more.items
