use Rattle.std.proofs.Common.{◌+◌, ◌*◌, [], ◌∷◌, ◌++◌, refl, sym, ap, ◌∙◌, subst}
use Rattle.events.specs.ProcessRule.{IsHistory}
use Rattle.checkpoints.specs.KeyLineView.{KeyLineView}
use Rattle.verdict_tests.proofs.LongLine.{may_push_first, may_push_second, both_pushed}
use Rattle.verdict_tests.proofs.key_lines.written.Goals as goal

pub push-requires : goal.push-requires
push-requires c =
    let k = c.loop-round.round in
    may_push_first k (2 * k) c.loop-round.line.now.events c.event.result c.loop-round.invariant refl c.event.ensures

pub push-requires-in-loop-round : goal.push-requires-in-loop-round
push-requires-in-loop-round c =
    let k = c.loop-round.round in
    let events = c.loop-round.line.now.events in
    subst (λ l. IsHistory (l ++ (2 * k + 1, c.event-in-loop-round.result) ∷ [])) (sym (ap (λ (v : KeyLineView). v.now.events) c.in_ok-push.ensures.ok))
    (may_push_second k (2 * k) (2 * k + 1) events c.event.result c.event-in-loop-round.result c.loop-round.invariant refl refl c.event.ensures c.event-in-loop-round.ensures)

pub loop-round-preserved : goal.loop-round-preserved
loop-round-preserved c =
    let k = c.loop-round.round in
    let events = c.loop-round.line.now.events in
    ap (λ (v : KeyLineView). v.now.events) c.in_ok-push-2.ensures.ok
    ∙ ap (λ l. l ++ (2 * k + 1, c.event-in-loop-round.result) ∷ []) (ap (λ (v : KeyLineView). v.now.events) c.in_ok-push.ensures.ok)
    ∙ both_pushed k (2 * k) (2 * k + 1) events c.event.result c.event-in-loop-round.result c.loop-round.invariant refl refl c.event.ensures c.event-in-loop-round.ensures
