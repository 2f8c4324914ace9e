use Rattle.std.proofs.Common.{◌+◌, [], ◌∷◌, ◌++◌, ap, ◌∙◌, arith}
use Rattle.models.specs.declared.operation.Name.TheVariants.{Release}
use Rattle.models.specs.declared.operation.Part.TheVariants.{Nil}
use Rattle.checkpoints.specs.KeyLineView.{KeyLineView}
use Rattle.verdict_tests.proofs.ShortLine.{may_invoke, may_return, may_fail, may_crash}
use Rattle.verdict_tests.proofs.key_lines.of_a_release.Goals as goal

pub push-requires : goal.push-requires
push-requires c =
    may_invoke 0 Release Nil c.in_ok-line.line.now.events c.event.result c.event.ensures
    (ap (λ (v : KeyLineView). v.now.events) c.in_ok-line.ensures)

pub prepare_push-requires : goal.prepare_push-requires
prepare_push-requires c =
    may_crash 0 Release Nil c.push.new.self.now.events c.event.result c.event.ensures 1 c.event-2.result Nil
    (
    ap (λ (v : KeyLineView). v.now.events) c.in_ok-push.ensures.ok
    ∙ ap (λ l. l ++ (0, c.event.result) ∷ []) (ap (λ (v : KeyLineView). v.now.events) c.in_ok-line.ensures)
    )
    (omega arith)
    c.event-2.ensures

pub prepare_push-requires-2 : goal.prepare_push-requires-2
prepare_push-requires-2 c =
    may_fail 0 Release Nil c.prepare_push.new.self.now.events c.event.result c.event.ensures 1 c.event-3.result Nil
    (
    ap (λ (v : KeyLineView). v.now.events) c.in_ok-crashed.ensures.prepared
    ∙ ap (λ (v : KeyLineView). v.now.events) c.in_ok-push.ensures.ok
    ∙ ap (λ l. l ++ (0, c.event.result) ∷ []) (ap (λ (v : KeyLineView). v.now.events) c.in_ok-line.ensures)
    )
    (omega arith)
    c.event-3.ensures

pub prepare_push-requires-3 : goal.prepare_push-requires-3
prepare_push-requires-3 c =
    may_return 0 Release Nil c.prepare_push-2.new.self.now.events c.event.result c.event.ensures 1 c.event-4.result Nil
    (
    ap (λ (v : KeyLineView). v.now.events) c.in_ok-failed.ensures.prepared
    ∙ ap (λ (v : KeyLineView). v.now.events) c.in_ok-crashed.ensures.prepared
    ∙ ap (λ (v : KeyLineView). v.now.events) c.in_ok-push.ensures.ok
    ∙ ap (λ l. l ++ (0, c.event.result) ∷ []) (ap (λ (v : KeyLineView). v.now.events) c.in_ok-line.ensures)
    )
    (omega arith)
    c.event-4.ensures
