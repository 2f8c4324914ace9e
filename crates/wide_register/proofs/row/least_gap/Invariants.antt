use Rattle.std.proofs.Common.{take}
use Rattle.wide_register.specs.Facts.{IsLeastGap}
use Rattle.wide_register.proofs.row.least_gap.Given as goal

abbrev pub invariant-loop-moment : goal.invariant-loop-moment
invariant-loop-moment l = IsLeastGap (take l.moment-index l.moments) l.gap l.least
