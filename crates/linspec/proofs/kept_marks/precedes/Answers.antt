use Rattle.std.proofs.Common.{refl, sym, ◌∙◌, subst}
use Rattle.std.proofs.lemmas.List.{take_all}
use Rattle.linspec.specs.Operations.{Precedes}
use Rattle.linspec.specs.KeptMarks.{marks_of_kept}
use Rattle.std.proofs.lemmas.Bool.{true≢false}
use Rattle.linspec.proofs.Questions.{precedes_here, precedes_no_more}
use Rattle.linspec.proofs.kept_marks.precedes.Goals as goal
use Rattle.linspec.proofs.kept_marks.precedes.Goals.{else-invokes-via-then-invokes+else-has_returned, else-invokes-via-else-invokes}

pub returns-then-has_returned : goal.returns-then-has_returned
returns-then-has_returned c = (
  (λ t. precedes_here c.args.marks.now c.loop-at.at c.index-marks-at.result c.loop-at-test.true c.index-marks-at.is c.args.a c.args.b (c.invokes.ensures.0 c.if-invokes.true) (c.has_returned.ensures.0 c.if-has_returned.true)),
  (λ p. refl),
)

pub loop-at-preserved : goal.loop-at-preserved
loop-at-preserved c =
    let more = precedes_no_more c.args.marks.now c.loop-at.at c.index-marks-at.result c.loop-at-test.true c.index-marks-at.is c.args.a c.args.b c.loop-at.invariant in
    elim c.else-invokes.branch [
      | else-invokes-via-then-invokes+else-has_returned w ↦ more (λ i r. true≢false (sym (w.has_returned.ensures.1 r) ∙ w.if-has_returned.false))
      | else-invokes-via-else-invokes w ↦ more (λ i r. true≢false (sym (c.invokes.ensures.1 i) ∙ w.if-invokes.false))
    ]

pub returns : goal.returns
returns c = (
  (λ t. absurd (true≢false (sym t))),
  (λ p. absurd (c.loop-at.invariant (subst (λ xs. Precedes (marks_of_kept xs) c.args.a c.args.b) (sym (take_all c.loop-at.at c.args.marks.now c.loop-at-test.false)) p))),
)
