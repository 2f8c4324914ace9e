use Rattle.std.proofs.Common.{cond, sym, ◌∙◌, ap, take}
use Rattle.linspec.specs.KeptMarks.{last_invocation}
use Rattle.linspec.proofs.EventMarks.{last_invocation-more}
use Rattle.linspec.proofs.kept_marks.last_invocation_by.Goals as goal
use Rattle.linspec.proofs.kept_marks.last_invocation_by.Goals.{then-is_invocation_by, else-is_invocation_by}

pub loop-at-preserved : goal.loop-at-preserved
loop-at-preserved c =
    let more = last_invocation-more c.args.events.now c.loop-at.at c.index-events-at.result c.loop-at-test.true c.index-events-at.is c.args.process in
    let before = last_invocation (take c.loop-at.at c.args.events.now) c.args.process in
    elim c.if-is_invocation_by.branch [
      | then-is_invocation_by w ↦ w.last-is ∙ sym (more ∙ ap (λ b. cond b c.loop-at.at before) (sym c.is_invocation_by.ensures ∙ w.if-is_invocation_by.true))
      | else-is_invocation_by w ↦ w.last-is ∙ c.loop-at.invariant ∙ sym (more ∙ ap (λ b. cond b c.loop-at.at before) (sym c.is_invocation_by.ensures ∙ w.if-is_invocation_by.false))
    ]
