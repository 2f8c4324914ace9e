use Rattle.std.proofs.Common.{◌∷◌, ◌++◌, [], ap, ◌∙◌}
use Rattle.verdict_tests.proofs.LongLine.{one_more_made}
use Rattle.verdict_tests.proofs.key_lines.writes_made.Goals as goal

pub loop-preserved : goal.loop-preserved
loop-preserved c =
    c.in_ok-push-2.ensures.items
    ∙ ap (λ l. l ++ c.event-in-loop.result ∷ []) c.in_ok-push.ensures.items
    ∙ one_more_made c.loop.counter c.loop.events.items c.event.result c.event-in-loop.result c.loop.invariant c.event.ensures c.event-in-loop.ensures
