use Rattle.std.proofs.Common.{◌+◌, pos, [], ◌∷◌, ◌++◌, ap, ◌∙◌, arith}
use Rattle.models.specs.declared.operation.Name.TheVariants.{Write}
use Rattle.models.specs.declared.operation.Part.TheVariants.{Int}
use Rattle.checkpoints.specs.KeyLineView.{KeyLineView}
use Rattle.verdict_tests.specs.ShortLine.{heal}
use Rattle.verdict_tests.proofs.ShortLine.{may_invoke_then, may_return_then}
use Rattle.verdict_tests.proofs.key_lines.behind_a_fault.Goals as goal

pub push-requires-2 : goal.push-requires-2
push-requires-2 c =
    may_invoke_then 1 Write (Int (pos 1)) c.push.new.self.now.events c.event.result c.event.ensures (omega arith)
    (
    ap (λ (v : KeyLineView). v.now.events) c.in_ok-push.ensures.ok
    ∙ ap (λ l. l ++ (0, heal) ∷ []) (ap (λ (v : KeyLineView). v.now.events) c.in_ok-line.ensures)
    )

pub push-requires-3 : goal.push-requires-3
push-requires-3 c =
    may_return_then 1 Write (Int (pos 1)) c.push-2.new.self.now.events c.event.result c.event.ensures (omega arith) 2 c.event-2.result (Int (pos 1))
    (
    ap (λ (v : KeyLineView). v.now.events) c.in_ok-push-2.ensures.ok
    ∙ ap (λ l. l ++ (1, c.event.result) ∷ [])
    (
    ap (λ (v : KeyLineView). v.now.events) c.in_ok-push.ensures.ok
    ∙ ap (λ l. l ++ (0, heal) ∷ []) (ap (λ (v : KeyLineView). v.now.events) c.in_ok-line.ensures)
    )
    )
    (omega arith)
    c.event-2.ensures
