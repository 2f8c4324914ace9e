use Rattle.std.proofs.Common.{◌⊎◌, length}
use Rattle.std.specs.List.{Contains}
use Rattle.wide_register.specs.declared.row.Row.{Row}
use Rattle.wide_register.proofs.gather.split.Given as goal

abbrev pub invariant-loop-row : goal.invariant-loop-row
invariant-loop-row l = record {
  within : (r : Row) → Contains l.rows.items r → Contains l.initial.rows.items r;
  with_it : (r : Row) → Contains l.halves.with.items r → Contains l.initial.rows.items r × Contains r.needed.items l.id;
  without_it : (r : Row) → Contains l.halves.without.items r → Contains l.initial.rows.items r × (¬ Contains r.needed.items l.id);
  all : (r : Row) → Contains l.initial.rows.items r → Contains l.rows.items r ⊎ (Contains l.halves.with.items r ⊎ Contains l.halves.without.items r);
}

abbrev pub decreases-loop-row : goal.decreases-loop-row
decreases-loop-row l = length l.rows.items
