use Rattle.wide_register.specs.Facts.{IsCut}
use Rattle.wide_register.proofs.Trimming.{AreChangedTo}
use Rattle.wide_register.proofs.row.cut_gaps.Given as goal

abbrev pub invariant-loop-one : goal.invariant-loop-one
invariant-loop-one l = AreChangedTo (IsCut l.moments) l.initial.passed l.one-index l.passed
