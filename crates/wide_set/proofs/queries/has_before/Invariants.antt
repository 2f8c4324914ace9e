use Rattle.std.proofs.Common.{◌<◌, take}
use Rattle.std.specs.List.{Contains}
use Rattle.wide_set.specs.declared.known.Answered.{Answered}
use Rattle.wide_set.proofs.queries.has_before.Given as goal

abbrev pub invariant-loop-answered : goal.invariant-loop-answered
invariant-loop-answered l = (a : Answered) → Contains (take l.answered-index l.answers) a → ¬ (a.by < l.moment)
