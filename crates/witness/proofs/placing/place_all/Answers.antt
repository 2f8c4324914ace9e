-- operations of an order, one after another
use Rattle.std.proofs.Common.{◌≡◌, ℕ, ◌<◌, true, false, Bool, MatchOption, List, [], ◌∷◌, ◌++◌, length, get_or, ap, ◌∙◌, subst}
use Rattle.witness.specs.declared.mismatch.MismatchReason.TheVariants.{LeftOut}
use Rattle.witness.specs.declared.mismatch.Mismatch.{Mismatch}
use Rattle.witness.specs.Statuses.{status_at}
use Rattle.witness.specs.Placing.{IsBarred, MayBeInOrder, MustBeInOrder}
use Rattle.witness.proofs.Placings.{one_placed, stopped, all_placed}
use Rattle.witness.proofs.placing.place_all.Goals as goal

pub returns-in-Some : goal.returns-in-Some
returns-in-Some c = stopped c.args.events.now c.args.statuses.now c.args.order.now c.loop-place.place c.loop-place.taken.items c.loop-place.positions.items c.loop-place.invariant c.loop-place-test.true c.in-Some.why
    (subst (λ l. IsBarred c.args.statuses.now (λ k. get_or l k false ≡ true) (get_or c.args.order.now c.loop-place.place 0) c.in-Some.why) c.deref.ensures.value c.in-Some.ensures)

pub loop-place-preserved : goal.loop-place-preserved
loop-place-preserved c =
    let id : ℕ = get_or c.args.order.now c.loop-place.place 0 in
    let fine = subst (λ (l : List Bool). (id < length c.args.statuses.now) × MayBeInOrder (status_at c.args.statuses.now id) × (get_or l id false ≡ false)) c.deref.ensures.value c.in_default.ensures in
    one_placed c.args.events.now c.args.statuses.now c.args.order.now c.loop-place.place c.loop-place.taken.items c.loop-place.positions.items c.loop-place.invariant c.loop-place-test.true
    fine.0 fine.1 fine.2 c.push.new.self.items
    (c.in_ok-push.ensures.items ∙ ap (λ k. c.loop-place.positions.items ++ record { key = k; place = c.loop-place.place; id = id } ∷ []) c.key_at-key.ensures)

pub returns : goal.returns
returns c = all_placed c.args.events.now c.args.statuses.now c.args.order.now c.loop-place.place c.loop-place.taken.items c.loop-place.positions.items c.loop-place.invariant c.loop-place-test.false c.left_out-stop.result
    (subst (λ (l : List Bool). MatchOption c.left_out-stop.result ((id : ℕ) → MustBeInOrder (status_at c.args.statuses.now id) → get_or l id false ≡ true)
    (λ (mismatch : Mismatch). (mismatch.place ≡ length c.args.order.now) × (mismatch.why ≡ LeftOut) × MustBeInOrder (status_at c.args.statuses.now mismatch.event) × (get_or l mismatch.event false ≡ false)
    × ((id : ℕ) → id < mismatch.event → MustBeInOrder (status_at c.args.statuses.now id) → get_or l id false ≡ true)))
    c.deref-2.ensures.value c.left_out-stop.ensures)
