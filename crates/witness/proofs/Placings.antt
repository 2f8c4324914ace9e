-- operations that are placed, one more
use Rattle.std.proofs.Common.{◌≡◌, ◌≢◌, ◌↔◌, ℕ, ◌+◌, ◌<◌, ◌≤◌, ⊎_elim, Bool, true, false, Option, Some, None, MatchOption, List, [], ◌∷◌, ◌++◌, length, take, drop, get_or, set, slice_get, refl, sym, ap, ◌∙◌, subst, arith, get_or-set_same, get_or-set_other}
use Rattle.std.specs.List.{Contains}
use Rattle.std.proofs.lemmas.Bool.{cases_eq, true≢false}
use Rattle.std.proofs.lemmas.Option.{slice_get-get_or}
use Rattle.std.proofs.lemmas.List.{take_more, take_all, take-append-drop, length-take-le, length-set}
use Rattle.std.proofs.lemmas.List.Elements.{Contains-append_left, Contains-push, Contains-push_cases}
use Rattle.events.specs.declared.event.Event.{Event}
use Rattle.linspec.specs.Orders.{Pairwise}
use Rattle.linspec.proofs.Lists.{Contains-nil, Contains-cons_cases, Pairwise-append}
use Rattle.witness.specs.declared.statuses.OperationStatus.{OperationStatus}
use Rattle.witness.specs.declared.mismatch.MismatchReason.{MismatchReason}
use Rattle.witness.specs.declared.mismatch.MismatchReason.TheVariants.{NoEvent, NoInvocation, Twice, Failed, TooLate, CannotTakePlace, AnotherAnswer, LeftOut}
use Rattle.witness.specs.declared.mismatch.Mismatch.{Mismatch}
use Rattle.witness.specs.declared.placing.Position.{Position}
use Rattle.witness.specs.Statuses.{status_at}
use Rattle.witness.specs.Placing.{MayBeInOrder, MustBeInOrder, key_at, positions_from, IsBarred, StopsFor, Stops, AreAll, ArePlaced}

pub positions_push : (events : List Event) (n : ℕ) (ids : List ℕ) (id : ℕ) → positions_from events n (ids ++ id ∷ []) ≡ positions_from events n ids ++ record { key = key_at (slice_get events id); place = n + length ids; id = id } ∷ []
positions_push events n [] id = ap (λ p. record { key = key_at (slice_get events id); place = p; id = id } ∷ []) (let t : n ≡ n + 0 = omega arith in t)
positions_push events n (i ∷ ids) id =
    ap (λ l. record { key = key_at (slice_get events i); place = n; id = i } ∷ l)
    (positions_push events (n + 1) ids id ∙ ap (λ p. positions_from events (n + 1) ids ++ record { key = key_at (slice_get events id); place = p; id = id } ∷ []) (let t : n + 1 + length ids ≡ n + length (i ∷ ids) = omega arith in t))

-- the operations placed so far
pub record ArePlacedUpTo (events : List Event) (statuses : List OperationStatus) (order : List ℕ) (place : ℕ) (taken : List Bool) (positions : List Position) : Type 0 where
  pub long : length taken ≡ length statuses
  pub marked : (id : ℕ) → (get_or taken id false ≡ true) ↔ Contains (take place order) id
  pub are : positions ≡ positions_from events 0 (take place order)
  pub may : (id : ℕ) → Contains (take place order) id → MayBeInOrder (status_at statuses id)
  pub once : Pairwise (λ x y. x ≢ y) (take place order)

module _ (events : List Event) (statuses : List OperationStatus) (order : List ℕ) (place : ℕ) (taken : List Bool) (positions : List Position) (h : ArePlacedUpTo events statuses order place taken positions) (fits : place < length order) where
  abbrev id : ℕ
  id = get_or order place 0

  abbrev ids : List ℕ
  ids = take place order

  more : take (place + 1) order ≡ take place order ++ get_or order place 0 ∷ []
  more = take_more order place 0 fits

  pub one_placed : get_or order place 0 < length statuses → MayBeInOrder (status_at statuses (get_or order place 0)) → get_or taken (get_or order place 0) false ≡ false → (after : List Position)
      → after ≡ positions ++ record { key = key_at (slice_get events (get_or order place 0)); place = place; id = get_or order place 0 } ∷ [] → ArePlacedUpTo events statuses order (place + 1) (set taken (get_or order place 0) true) after
  one_placed within may fresh after is = record {
    long = (let l = h.long in let s = length-set taken id true in omega (arith, l, s));
    marked = λ k. subst (λ l. (get_or (set taken id true) k false ≡ true) ↔ Contains l k) (sym more) (⊎_elim
        (λ (e : k ≡ id). (
          (λ t. subst (Contains (ids ++ id ∷ [])) (sym e) (Contains-push ids id)),
          (λ c. ap (λ n. get_or (set taken id true) n false) e ∙ get_or-set_same taken id true false (let l = h.long in omega (arith, l, within))),
        ))
        (λ ne. (
          (λ t. Contains-append_left ids (id ∷ []) k ((h.marked k).0 (sym (get_or-set_other taken id k true false ne) ∙ t))),
          (λ c. get_or-set_other taken id k true false ne ∙ (h.marked k).1 (⊎_elim (λ i. i) (λ e. absurd (ne (sym e))) (Contains-push_cases ids id k c))),
        ))
        (cases_eq k id));
    are = is ∙ ap (λ l. l ++ record { key = key_at (slice_get events id); place = place; id = id } ∷ []) h.are
        ∙ ap (λ p. positions_from events 0 ids ++ record { key = key_at (slice_get events id); place = p; id = id } ∷ []) (let l = length-take-le place order (omega arith) in let t : place ≡ 0 + length ids = omega (arith, l) in t)
        ∙ sym (positions_push events 0 ids id) ∙ ap (positions_from events 0) (sym more);
    may = λ k c. ⊎_elim (λ i. h.may k i) (λ (e : id ≡ k). subst (λ n. MayBeInOrder (status_at statuses n)) e may) (Contains-push_cases ids id k (subst (λ l. Contains l k) more c));
    once = subst (Pairwise (λ x y. x ≢ y)) (sym more)
        (Pairwise-append (λ x y. x ≢ y) ids (id ∷ []) h.once ((λ y c. absurd (Contains-nil y c)), tt)
        (λ x y c k e. ⊎_elim (λ (q : id ≡ y). true≢false (sym ((h.marked id).1 (subst (Contains ids) (e ∙ sym q) c)) ∙ fresh)) (λ none. absurd (Contains-nil y none)) (Contains-cons_cases id [] y k)));
  }

  -- one that may not be next
  barred : (why : MismatchReason) → IsBarred statuses (λ k. get_or taken k false ≡ true) id why → IsBarred statuses (Contains ids) id why
  barred NoEvent b = b
  barred NoInvocation b = b
  barred Failed b = b
  barred Twice b = (h.marked id).0 b
  barred TooLate b = b
  barred CannotTakePlace b = b
  barred AnotherAnswer b = b
  barred LeftOut b = b

  stops : (why : MismatchReason) → IsBarred statuses (Contains ids) id why → StopsFor statuses order ids place id why
  stops NoEvent b = (refl, slice_get-get_or order place 0 fits, b)
  stops NoInvocation b = (refl, slice_get-get_or order place 0 fits, b)
  stops Failed b = (refl, slice_get-get_or order place 0 fits, b)
  stops Twice b = (refl, slice_get-get_or order place 0 fits, b)
  stops TooLate b = absurd b
  stops CannotTakePlace b = absurd b
  stops AnotherAnswer b = absurd b
  stops LeftOut b = absurd b

  pub stopped : (why : MismatchReason) → IsBarred statuses (λ k. get_or taken k false ≡ true) id why → ArePlaced events statuses order positions (Some (record { place = place; event = id; why = why }))
  stopped why b = record {
    ids = ids;
    front = (drop place order, take-append-drop place order);
    are = h.are;
    may = h.may;
    once = h.once;
    ends = stops why (barred why b);
  }

-- all are placed
module _ (events : List Event) (statuses : List OperationStatus) (order : List ℕ) (place : ℕ) (taken : List Bool) (positions : List Position) (h : ArePlacedUpTo events statuses order place taken positions) (all : length order ≤ place) where
  whole : take place order ≡ order
  whole = take_all place order all

  in_order : (id : ℕ) → (get_or taken id false ≡ true) ↔ Contains order id
  in_order id = subst (λ l. (get_or taken id false ≡ true) ↔ Contains l id) whole (h.marked id)

  at_end : (stop : Option Mismatch) → MatchOption stop ((id : ℕ) → MustBeInOrder (status_at statuses id) → get_or taken id false ≡ true)
      (λ mismatch. (mismatch.place ≡ length order) × (mismatch.why ≡ LeftOut) × MustBeInOrder (status_at statuses mismatch.event) × (get_or taken mismatch.event false ≡ false)
      × ((id : ℕ) → id < mismatch.event → MustBeInOrder (status_at statuses id) → get_or taken id false ≡ true))
      → MatchOption stop (AreAll statuses order (take place order)) (Stops statuses order (take place order))
  at_end None m = record { all = whole; each = λ id k. (in_order id).0 (m id k) }
  at_end (Some u) m = subst (StopsFor statuses order (take place order) u.place u.event) (sym m.1) (whole, m.0, m.2, (λ c. true≢false (sym ((in_order u.event).1 c) ∙ m.3)), λ id lt k. (in_order id).0 (m.4 id lt k))

  pub all_placed : (stop : Option Mismatch) → MatchOption stop ((id : ℕ) → MustBeInOrder (status_at statuses id) → get_or taken id false ≡ true)
      (λ mismatch. (mismatch.place ≡ length order) × (mismatch.why ≡ LeftOut) × MustBeInOrder (status_at statuses mismatch.event) × (get_or taken mismatch.event false ≡ false)
      × ((id : ℕ) → id < mismatch.event → MustBeInOrder (status_at statuses id) → get_or taken id false ≡ true))
      → ArePlaced events statuses order positions stop
  all_placed stop m = record {
    ids = take place order;
    front = (drop place order, take-append-drop place order);
    are = h.are;
    may = h.may;
    once = h.once;
    ends = at_end stop m;
  }
