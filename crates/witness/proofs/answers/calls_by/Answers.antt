-- one call more
use Rattle.std.proofs.Common.{◌∷◌, [], ◌++◌, take, get_or, sym, subst}
use Rattle.witness.specs.declared.placing.Position.{Position}
use Rattle.witness.specs.KeyOrders.{AreCallsBy, ids_of}
use Rattle.witness.proofs.Late.{ids_more_at, calls_more}
use Rattle.witness.proofs.answers.calls_by.Goals as goal

pub loop-position-preserved : goal.loop-position-preserved
loop-position-preserved c =
    let positions = c.args.positions.now in
    let at = c.loop-position.position-index in
    let d : Position = record { key = 0; place = 0; id = 0 } in
    subst (λ l. AreCallsBy c.args.events.now c.args.statuses.now l c.push.new.self.items) (sym (ids_more_at positions at d c.loop-position-test.true))
    (subst (AreCallsBy c.args.events.now c.args.statuses.now (ids_of (take at positions) ++ (get_or positions at d).id ∷ [])) (sym c.in_ok-push.ensures.items)
    (calls_more c.args.events.now c.args.statuses.now (ids_of (take at positions)) c.loop-position.calls.items (get_or positions at d).id c.in_ok-call.call c.loop-position.invariant c.in_ok-call.ensures))
