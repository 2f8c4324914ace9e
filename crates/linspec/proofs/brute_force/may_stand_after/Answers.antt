use Rattle.std.proofs.Common.{sym, ap, ◌∙◌, not}
use Rattle.std.proofs.lemmas.Bool.{true≢false}
use Rattle.linspec.specs.KeptMarks.{marks_of_kept}
use Rattle.linspec.proofs.Steps.{may_stand}
use Rattle.linspec.proofs.brute_force.may_stand_after.Goals as goal
use Rattle.linspec.proofs.brute_force.may_stand_after.Goals.{then-not-is_among, else-not-is_among}

pub returns-then-not-has_failed : goal.returns-then-not-has_failed
returns-then-not-has_failed c =
    elim c.if-not-is_among.branch [
      | then-not-is_among w ↦ may_stand (marks_of_kept c.args.marks.now) c.args.taken.now c.args.id c.is_among.result w.has_failed.result c.precedes_some.result c.is_among.ensures w.has_failed.ensures c.precedes_some.ensures
          (ap not w.if-not-is_among.true) (sym w.value-is ∙ c.if-not-has_failed.true)
      | else-not-is_among w ↦ absurd (true≢false (sym c.if-not-has_failed.true ∙ w.value-is ∙ ap not w.if-not-is_among.false))
    ]
