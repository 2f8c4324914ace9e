use Rattle.std.proofs.Common.{take}
use Rattle.std.specs.List.{Contains}
use Rattle.wide_cas_register.specs.declared.row.Row.{Row}
use Rattle.wide_cas_register.specs.Facts.{IsAtMostBy}
use Rattle.wide_cas_register.proofs.left.is_covered.Given as goal

abbrev pub invariant-loop-other : goal.invariant-loop-other
invariant-loop-other l = (q : Row) → Contains (take l.other-index l.rows) q → ¬ IsAtMostBy l.calls l.row q
