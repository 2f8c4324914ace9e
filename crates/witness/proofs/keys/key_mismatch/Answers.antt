-- too late, or halted before
use Rattle.std.proofs.Common.{MatchOption, take, subst}
use Rattle.witness.specs.declared.placing.Position.{Position}
use Rattle.witness.specs.KeyOrders.{ids_of, CanRunBy, KeyMismatch}
use Rattle.witness.proofs.Late.{mismatch_in_all, late_mismatch}
use Rattle.witness.proofs.keys.key_mismatch.Goals as goal

pub returns-in-Some-2 : goal.returns-in-Some-2
returns-in-Some-2 c = mismatch_in_all c.args.kind c.args.events.now c.args.statuses.now c.args.positions.now c.in-Some.late c.in-Some-2.mismatch
    (subst (λ o. MatchOption o (CanRunBy c.args.kind c.args.events.now c.args.statuses.now (ids_of (take c.in-Some.late c.args.positions.now))) (KeyMismatch c.args.kind c.args.events.now c.args.statuses.now (take c.in-Some.late c.args.positions.now)))
    c.in-Some-2.is c.in_ok-mismatch.ensures)

pub returns-in-None : goal.returns-in-None
returns-in-None c =
    let d : Position = record { key = 0; place = 0; id = 0 } in
    late_mismatch c.args.kind c.args.events.now c.args.statuses.now c.args.positions.now c.in-Some.late d c.mismatch_at.result c.in-Some.ensures.0
    (record {
      in_time = c.in-Some.ensures.1;
      can_run = subst (λ o. MatchOption o (CanRunBy c.args.kind c.args.events.now c.args.statuses.now (ids_of (take c.in-Some.late c.args.positions.now))) (KeyMismatch c.args.kind c.args.events.now c.args.statuses.now (take c.in-Some.late c.args.positions.now)))
          c.in-None.is c.in_ok-mismatch.ensures;
    })
    c.in-Some.ensures.2 c.mismatch_at.ensures
