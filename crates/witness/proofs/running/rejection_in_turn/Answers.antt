-- calls in turn
use Rattle.std.proofs.Common.{◌≡◌, [], ◌∷◌, ◌++◌, take, sym, ap, ◌∙◌, subst}
use Rattle.std.proofs.lemmas.List.{append-nil, take_more, take_all}
use Rattle.kinds.specs.Kinds.{object_of}
use Rattle.witness.specs.Calls.{CanRun}
use Rattle.witness.specs.Taking.{Takes, IsAfter}
use Rattle.witness.proofs.InTurn.{one_more, rejection_at}
use Rattle.witness.proofs.running.rejection_in_turn.Goals as goal

pub returns-in-Err : goal.returns-in-Err
returns-in-Err c = rejection_at c.args.kind c.args.calls.now c.loop-at.at c.index-calls-at.result c.loop-at.state c.in-Err.why c.loop-at-test.true c.index-calls-at.is c.loop-at.invariant
    (λ s is. subst (Takes c.args.kind s c.index-calls-at.result) c.in-Err.is (c.in_ok-next.ensures c.args.kind s c.requires is))

pub loop-at-preserved : goal.loop-at-preserved
loop-at-preserved c =
    subst (λ l. IsAfter c.args.kind l c.in-Ok.next)
    (sym (take_more c.args.calls.now c.loop-at.at c.index-calls-at.result c.loop-at-test.true ∙ ap (λ x. take c.loop-at.at c.args.calls.now ++ x ∷ []) (sym c.index-calls-at.is)))
    (one_more c.args.kind (take c.loop-at.at c.args.calls.now) c.index-calls-at.result c.loop-at.state c.in-Ok.next c.loop-at.invariant
    (λ s is. subst (Takes c.args.kind s c.index-calls-at.result) c.in-Ok.is (c.in_ok-next.ensures c.args.kind s c.requires is)))

pub returns : goal.returns
returns c =
    let o = object_of c.args.kind in
    let whole : take c.loop-at.at c.args.calls.now ++ [] ≡ c.args.calls.now = append-nil (take c.loop-at.at c.args.calls.now) ∙ take_all c.loop-at.at c.args.calls.now c.loop-at-test.false in
    subst (λ l. CanRun o l o.start) whole ((c.loop-at.invariant.ahead []).1 tt)
