use Rattle.std.proofs.Common.{take}
use Rattle.std.specs.List.{Contains}
use Rattle.wide_register.specs.declared.row.Passed.{Passed}
use Rattle.wide_register.specs.Facts.{IsPassedIn}
use Rattle.wide_register.proofs.left.has_passed.Given as goal

abbrev pub invariant-loop-passed : goal.invariant-loop-passed
invariant-loop-passed l = (p : Passed) → Contains (take l.passed-index l.these) p → IsPassedIn l.those p
