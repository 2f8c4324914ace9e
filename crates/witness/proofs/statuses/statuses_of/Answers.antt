-- one event more
use Rattle.std.proofs.Common.{◌≡◌, ◌+◌, ◌<◌, [], ◌∷◌, length, take, sym, ap, ◌∙◌, subst, arith}
use Rattle.std.proofs.lemmas.List.{length-append}
use mathlib.Core.Path.{fun_ext}
use Rattle.events.specs.Events.{op_event, last_after}
use Rattle.linspec.specs.KeptMarks.{last_invocation}
use Rattle.witness.specs.declared.statuses.OperationStatus.TheVariants.{NoOperation}
use Rattle.witness.specs.Statuses.{status_at, status_with, last_in}
use Rattle.witness.proofs.StatusesFound.{status_more, last_more, last_after-within, status_push}
use Rattle.witness.proofs.statuses.statuses_of.Goals as goal

pub loop-at-preserved : goal.loop-at-preserved
loop-at-preserved c =
    let events = c.args.events.now in
    let at = c.loop-at.at in
    let event = c.index-events-at.result in
    let same : last_in c.loop-at.last ≡ last_invocation (take at events) = fun_ext c.loop-at.invariant.lasts in
    record {
      long = (
          let pushed : length c.push.new.self.items ≡ length c.loop-at.statuses.items + 1 = ap length c.in_ok-push.ensures.items ∙ length-append c.loop-at.statuses.items (NoOperation ∷ []) in
          let noted = c.in_ok-note.ensures.long in
          let before = c.loop-at.invariant.long in
          omega (arith, pushed, noted, before));
      each = λ id. c.in_ok-note.ensures.statuses id
          ∙ ap (λ l. status_with at l (op_event event) (status_at c.push.new.self.items id) id) same
          ∙ ap (λ f. status_with at (last_invocation (take at events)) (op_event event) f id) (ap (λ l. status_at l id) c.in_ok-push.ensures.items ∙ status_push c.loop-at.statuses.items id ∙ c.loop-at.invariant.each id)
          ∙ sym (status_more events at event c.loop-at-test.true c.index-events-at.is id);
      lasts = λ p. c.in_ok-note.ensures.last p ∙ ap (λ l. last_after at l (op_event event) p) same ∙ sym (last_more events at event c.loop-at-test.true c.index-events-at.is p);
      within = λ p. subst (λ n. n < at + 1 + 1) (sym (last_more events at event c.loop-at-test.true c.index-events-at.is p))
          (last_after-within (at + 1 + 1) at (last_invocation (take at events)) (op_event event) (omega arith) (λ q. let w = c.loop-at.invariant.within q in omega (arith, w)) p);
    }
