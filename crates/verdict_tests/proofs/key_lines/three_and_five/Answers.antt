use Rattle.std.proofs.Common.{◌+◌, pos, [], ◌∷◌, ◌++◌, ap, ◌∙◌, arith}
use Rattle.models.specs.declared.operation.Name.TheVariants.{Write}
use Rattle.models.specs.declared.operation.Part.TheVariants.{Int}
use Rattle.checkpoints.specs.KeyLineView.{KeyLineView}
use Rattle.verdict_tests.proofs.ShortLine.{may_invoke, may_return}
use Rattle.verdict_tests.proofs.key_lines.three_and_five.Goals as goal

pub push-requires : goal.push-requires
push-requires c =
    may_invoke 3 Write (Int (pos 1)) c.in_ok-line.line.now.events c.event.result c.event.ensures
    (ap (λ (v : KeyLineView). v.now.events) c.in_ok-line.ensures)

pub push-requires-2 : goal.push-requires-2
push-requires-2 c =
    may_return 3 Write (Int (pos 1)) c.push.new.self.now.events c.event.result c.event.ensures 5 c.event-2.result (Int (pos 1))
    (
    ap (λ (v : KeyLineView). v.now.events) c.in_ok-push.ensures.ok
    ∙ ap (λ l. l ++ (3, c.event.result) ∷ []) (ap (λ (v : KeyLineView). v.now.events) c.in_ok-line.ensures)
    )
    (omega arith)
    c.event-2.ensures
