use Rattle.std.proofs.Common.{◌≡◌, ◌++◌, ◌∷◌, [], ⊎_elim, take, sym, ap, ◌∙◌, subst}
use Rattle.std.specs.List.{Contains}
use Rattle.std.proofs.lemmas.Bool.{true≢false}
use Rattle.std.proofs.lemmas.List.{take_all, take_more}
use Rattle.std.proofs.lemmas.List.Elements.{Contains-push_cases}
use Rattle.models.specs.declared.operation.Name.TheVariants.{Read}
use Rattle.linspec.proofs.Lists.{Contains-nil}
use Rattle.moves.specs.declared.pending_op.PendingOp.{PendingOp}
use Rattle.moves.proofs.pending_op.is_read.Goals as goal

pub loop-call-init : goal.loop-call-init
loop-call-init c d h both = Contains-nil d h

pub loop-call-preserved : goal.loop-call-preserved
loop-call-preserved c d h both =
    ⊎_elim
    (λ k. c.loop-call.invariant d k both)
    (λ e. true≢false (sym (c.is_read_of.ensures.1 (subst (λ (x : PendingOp). (x.id ≡ c.args.id) × (x.op.name ≡ Read)) (sym e) both)) ∙ c.if-is_read_of.false))
    (Contains-push_cases (take c.loop-call.call-index c.args.calls.now) c.call-item.result d
    (subst (λ l. Contains l d)
    (take_more c.args.calls.now c.loop-call.call-index c.call-item.result c.loop-call-test.true ∙ ap (λ x. take c.loop-call.call-index c.args.calls.now ++ x ∷ []) (sym c.call-item.is)) h))

pub returns : goal.returns
returns c = (
  (λ t. absurd (true≢false (sym t))),
  (λ r. absurd (c.loop-call.invariant r.0 (subst (λ l. Contains l r.0) (sym (take_all c.loop-call.call-index c.args.calls.now c.loop-call-test.false)) r.1) (r.2, r.3))),
)
