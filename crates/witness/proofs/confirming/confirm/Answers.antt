-- the result of an order
use Rattle.std.proofs.Common.{refl, sym, subst}
use Rattle.witness.specs.Statuses.{AreStatuses}
use Rattle.witness.specs.Placing.{ArePlaced}
use Rattle.witness.specs.KeyOrders.{AreThere, FindsAll}
use Rattle.witness.proofs.Sound.{IsSound, sound}
use Rattle.witness.proofs.Reasons.{there, fits, reason}
use Rattle.witness.proofs.Refuting.{linearizable, refuted}
use Rattle.witness.proofs.Firsts.{first}
use Rattle.witness.proofs.confirming.confirm.Goals as goal
use Rattle.witness.proofs.confirming.confirm.Goals.{In_ok-placed, In_ok-mismatch}

is_sound : (c : In_ok-placed) → IsSound c.args.history.now.events
is_sound c = sound c.args.history.now.concurrency c.args.history.now.events c.len-many.ensures.history

are_statuses : (c : In_ok-placed) → AreStatuses c.args.history.now.events c.in_ok-statuses.statuses.items
are_statuses c = subst (λ l. AreStatuses l c.in_ok-statuses.statuses.items) c.events-events.ensures c.in_ok-statuses.ensures

are_placed : (c : In_ok-placed) → ArePlaced c.args.history.now.events c.in_ok-statuses.statuses.items c.args.order.now c.in_ok-placed.placed.positions.items c.in_ok-placed.placed.stop
are_placed c =
    subst (λ l. ArePlaced l c.in_ok-statuses.statuses.items c.args.order.now c.in_ok-placed.placed.positions.items c.in_ok-placed.placed.stop) c.events-events.ensures
    (subst (λ f. ArePlaced c.events-events.result.now f c.args.order.now c.in_ok-placed.placed.positions.items c.in_ok-placed.placed.stop) c.deref.ensures.value c.in_ok-placed.ensures)

found : (c : In_ok-mismatch) → FindsAll c.args.kind c.args.history.now.events c.in_ok-statuses.statuses.items c.in_ok-placed.placed.stop c.in_ok-placed.placed.positions.items c.in_ok-mismatch.field-0
found c =
    subst (λ l. FindsAll c.args.kind l c.in_ok-statuses.statuses.items c.in_ok-placed.placed.stop c.in_ok-placed.placed.positions.items c.in_ok-mismatch.field-0) c.events-events.ensures
    (subst (λ f. FindsAll c.args.kind c.events-events.result.now f c.in_ok-placed.placed.stop c.in_ok-placed.placed.positions.items c.in_ok-mismatch.field-0) c.deref-2.ensures.value c.in_ok-mismatch.ensures)

pub first_mismatch-requires : goal.first_mismatch-requires
first_mismatch-requires c =
    let p = (goal.at.first_mismatch-requires c).In_ok-placed in
    subst (λ l. AreThere l c.in_ok-placed.placed.positions.items) (sym c.events-events.ensures)
    (there c.args.history.now.events (is_sound p) c.in_ok-statuses.statuses.items (are_statuses p) c.args.order.now c.in_ok-placed.placed.positions.items c.in_ok-placed.placed.stop (are_placed p))

pub returns-in-Some-clause-reason : goal.returns-in-Some-clause-reason
returns-in-Some-clause-reason c =
    let at = goal.at.returns-in-Some-clause-reason c in
    let p = at.In_ok-placed in
    reason c.args.history.now.events (is_sound p) c.in_ok-statuses.statuses.items (are_statuses p) c.args.order.now c.in_ok-placed.placed.positions.items c.in_ok-placed.placed.stop (are_placed p)
    c.args.kind c.in-Some.mismatch (subst (FindsAll c.args.kind c.args.history.now.events c.in_ok-statuses.statuses.items c.in_ok-placed.placed.stop c.in_ok-placed.placed.positions.items) c.in-Some.is (found at.In_ok-mismatch))

pub returns-in-Some-clause-first : goal.returns-in-Some-clause-first
returns-in-Some-clause-first c =
    let at = goal.at.returns-in-Some-clause-first c in
    let p = at.In_ok-placed in
    first c.args.history.now.events (is_sound p) c.in_ok-statuses.statuses.items (are_statuses p) c.args.order.now c.in_ok-placed.placed.positions.items c.in_ok-placed.placed.stop (are_placed p)
    c.args.kind c.in-Some.mismatch (subst (FindsAll c.args.kind c.args.history.now.events c.in_ok-statuses.statuses.items c.in_ok-placed.placed.stop c.in_ok-placed.placed.positions.items) c.in-Some.is (found at.In_ok-mismatch))

pub returns-in-Some-clause-confirmed : goal.returns-in-Some-clause-confirmed
returns-in-Some-clause-confirmed c =
    let at = goal.at.returns-in-Some-clause-confirmed c in
    let p = at.In_ok-placed in
    let why = reason c.args.history.now.events (is_sound p) c.in_ok-statuses.statuses.items (are_statuses p) c.args.order.now c.in_ok-placed.placed.positions.items c.in_ok-placed.placed.stop (are_placed p)
    c.args.kind c.in-Some.mismatch (subst (FindsAll c.args.kind c.args.history.now.events c.in_ok-statuses.statuses.items c.in_ok-placed.placed.stop c.in_ok-placed.placed.positions.items) c.in-Some.is (found at.In_ok-mismatch)) in (
      (λ e. cc),
      (λ w. absurd (refuted c.args.history.now.events (is_sound p) c.args.kind c.args.order.now w c.in_ok-statuses.statuses.items (are_statuses p) c.in-Some.mismatch.place c.in-Some.mismatch.event c.in-Some.mismatch.why why.is_so)),
    )

pub returns-clause-confirmed : goal.returns-clause-confirmed
returns-clause-confirmed c =
    let at = goal.at.returns-clause-confirmed c in
    let p = at.In_ok-placed in (
      (λ e. fits c.args.history.now.events (is_sound p) c.in_ok-statuses.statuses.items (are_statuses p) c.args.order.now c.in_ok-placed.placed.positions.items c.in_ok-placed.placed.stop (are_placed p)
          c.args.kind (subst (FindsAll c.args.kind c.args.history.now.events c.in_ok-statuses.statuses.items c.in_ok-placed.placed.stop c.in_ok-placed.placed.positions.items) c.in-None.is (found at.In_ok-mismatch))),
      (λ w. refl),
    )

pub returns-clause-linearizable : goal.returns-clause-linearizable
returns-clause-linearizable c = λ e.
    let at = goal.at.returns-clause-linearizable c in
    let p = at.In_ok-placed in
    linearizable c.args.kind c.args.history.now.events c.args.order.now (is_sound p)
    (fits c.args.history.now.events (is_sound p) c.in_ok-statuses.statuses.items (are_statuses p) c.args.order.now c.in_ok-placed.placed.positions.items c.in_ok-placed.placed.stop (are_placed p)
    c.args.kind (subst (FindsAll c.args.kind c.args.history.now.events c.in_ok-statuses.statuses.items c.in_ok-placed.placed.stop c.in_ok-placed.placed.positions.items) c.in-None.is (found at.In_ok-mismatch)))
