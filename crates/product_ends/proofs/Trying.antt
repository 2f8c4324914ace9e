-- the transitions of calls in the states that were tried
use Rattle.std.proofs.Common.{◌≡◌, ℕ, ◌+◌, ◌<◌, inl, inr, ⊎_elim, Some, List, [], ◌∷◌, ◌++◌, length, slice_get, get_or, sym, ap, ◌∙◌, subst, arith}
use Rattle.std.proofs.lemmas.Bool.{cases_eq}
use Rattle.std.proofs.lemmas.List.{get_or_append_left}
use Rattle.std.proofs.lemmas.Option.{get_or_from_slice_get, slice_get_within}
use Rattle.models.specs.declared.operation.Op.{Op}
use Rattle.models.specs.declared.finding.Found.{Found}
use Rattle.events.specs.Events.{IsPrefixOf}
use Rattle.interner.proofs.Lists.{get_front, get_last, get_push, one_of, some_at}
use Rattle.moves.specs.declared.pending_op.PendingOp.{PendingOp}
use Rattle.moves.specs.declared.table.Table.{Table}
use Rattle.moves.specs.Tables.{Widens, told_by}
use Rattle.moves.proofs.Adding.{IsPrefixOf-push}
use Rattle.moves.proofs.Rows.{slot_more}
use Rattle.products.specs.Products.{Has}
use Rattle.product_ends.specs.declared.transitions.Transition.{Transition}
use Rattle.product_ends.specs.declared.transitions.Transition.TheVariants.{Nowhere, To}
use Rattle.product_ends.specs.declared.transitions.Transitions.{Transitions}
use Rattle.product_ends.specs.Transitions.{AreTransitions, AreStays, AreStaysTo, AreTriedTo, AreTriedToo, AreWithin, IsTransition, IsOrderWith, IsStay, IsTried, order_in, stay_at}

module _ {S : Type 0} where
  -- a transition stays what it is in a table with more
  pub transition_more : (t u : Table S) (c : PendingOp) (outcomes : List (S × Found)) (transition : Transition) → Widens t u → IsTransition t c outcomes transition → IsTransition u c outcomes transition
  transition_more t u c outcomes Nowhere w h = h
  transition_more t u c outcomes (To to set) w h = (
    h.0,
    h.1,
    get_front t.states u.states to h.0.0 w.states h.2,
    h.3,
    slot_more t.founds u.founds h.3 (Some (told_by c.crashed h.0.1)) w.founds h.4,
    h.5,
  )

  module _ (apply : Op → S → List (S × Found)) (calls : List PendingOp) where
    -- one call more
    pub tried_more : (t u : Table S) (number from n : ℕ) (old : List Transition) (call : PendingOp) (transition : Transition) → Widens t u → length old ≡ from + n → slice_get calls n ≡ Some call
        → ((s : S) × (slice_get u.states number ≡ Some s) × IsTransition u call (apply call.op s) transition)
        → AreTriedTo apply t calls number old from n → AreTriedTo apply u calls number (old ++ transition ∷ []) from (n + 1)
    tried_more t u number from n old call transition w long here is are at c d lt there got =
        ⊎_elim
        (λ h.
        let less : at < n = (let bound = slice_get_within old (from + at) d h in omega (arith, long)) in
        let p = are at c d less there h in
        (p.0, get_front t.states u.states number p.0 w.states p.1, transition_more t u c (apply c.op p.0) d w p.2))
        (λ h.
        let same : at ≡ n = (let k = h.0 in omega (arith, long)) in
        let call_is : call ≡ c = one_of call c (sym here ∙ ap (slice_get calls) (sym same) ∙ there) in
        subst (λ x. (s : S) × (slice_get u.states number ≡ Some s) × IsTransition u c (apply c.op s) x) h.1
        (subst (λ (x : PendingOp). (s : S) × (slice_get u.states number ≡ Some s) × IsTransition u x (apply x.op s) transition) call_is is))
        (get_push old transition (from + at) d got)

    -- all calls, in a state more
    pub transitions_with : (t u : Table S) (old new : Transitions S) (number : ℕ) → Widens t u → IsPrefixOf old.transitions.items new.transitions.items
        → IsOrderWith old.order.items new.order.items number (length old.transitions.items)
        → AreTriedTo apply u calls number new.transitions.items (length old.transitions.items) (length calls)
        → AreWithin old (length calls) → AreTransitions apply t calls old → AreTransitions apply u calls new
    transitions_with t u old new number w front with_order tried within are n order at c transition is here got =
        let lt : at < length calls = slice_get_within calls at c here in
        ⊎_elim
        (λ same.
        let told : order ≡ length old.transitions.items = (let a = with_order.told in let b : get_or new.order.items number 0 ≡ order + 1 = subst (λ k. get_or new.order.items k 0 ≡ order + 1) same is in omega (arith, a, b)) in
        let p = tried at c transition lt here (subst (λ k. slice_get new.transitions.items (k + at) ≡ Some transition) told got) in
        (p.0, subst (λ k. slice_get u.states k ≡ Some p.0) (sym same) p.1, p.2))
        (λ other.
        let was : order_in old n ≡ order + 1 = sym (with_order.others n other) ∙ is in
        let bound = within n order was in
        let there = some_at old.transitions.items (order + at) (omega (arith, bound, lt)) in
        let same : there.0 ≡ transition = one_of there.0 transition (sym (get_front old.transitions.items new.transitions.items (order + at) there.0 front there.1) ∙ got) in
        let p = are n order at c transition was here (subst (λ x. slice_get old.transitions.items (order + at) ≡ Some x) same there.1) in
        (p.0, get_front t.states u.states n p.0 w.states p.1, transition_more t u c (apply c.op p.0) transition w p.2))
        (cases_eq n number)

  -- in one state more the calls are tried
  pub tried_too : (old new : Transitions S) (number order : ℕ) → IsOrderWith old.order.items new.order.items number order → AreTriedToo number old new
  tried_too old new number order with_order =
      let told = with_order.told in
      record {
        now = omega (arith, told);
        kept = λ n was.
            ⊎_elim
            (λ same. subst (IsTried new) (sym same) (omega (arith, told)))
            (λ other. subst (λ k. 0 < k) (sym (with_order.others n other)) was)
            (cases_eq n number);
        others = λ n is. ⊎_elim (λ same. inl same) (λ other. inr (subst (λ k. 0 < k) (with_order.others n other) is)) (cases_eq n number);
      }

  -- the transitions of each state that was tried are still there, and so are those of one more
  pub within_with : (old new : Transitions S) (number calls : ℕ) → length new.transitions.items ≡ length old.transitions.items + calls
      → IsOrderWith old.order.items new.order.items number (length old.transitions.items) → AreWithin old calls → AreWithin new calls
  within_with old new number calls long with_order within n order is =
      ⊎_elim
      (λ same. let a = with_order.told in let b : get_or new.order.items number 0 ≡ order + 1 = subst (λ k. get_or new.order.items k 0 ≡ order + 1) same is in omega (arith, a, b, long))
      (λ other. let bound = within n order (sym (with_order.others n other) ∙ is) in omega (arith, bound, long))
      (cases_eq n number)

  -- the answers that stay in each state that was tried are still recorded, and so are those that stay in one more
  pub stays_with : (old new : Transitions S) (number calls : ℕ) → IsPrefixOf old.transitions.items new.transitions.items → IsPrefixOf old.stays.items new.stays.items
      → length new.stays.items ≡ length new.transitions.items → IsOrderWith old.order.items new.order.items number (length old.transitions.items)
      → AreStaysTo number new.transitions.items new.stays.items (length old.transitions.items) calls → AreWithin old calls → AreStays old calls → AreStays new calls
  stays_with old new number calls front stays_front long with_order told within are = record {
    long = long;
    each = λ n order at slot is lt has.
        ⊎_elim
        (λ same.
        let there : order ≡ length old.transitions.items = (let a = with_order.told in let b : get_or new.order.items number 0 ≡ order + 1 = subst (λ k. get_or new.order.items k 0 ≡ order + 1) same is in omega (arith, a, b)) in
        let has_there : Has (get_or new.stays.items (length old.transitions.items + at) 0) slot = subst (λ k. Has (get_or new.stays.items (k + at) 0) slot) there has in
        subst (λ k. slice_get new.transitions.items (k + at) ≡ Some (To n (get_or new.stays.items (k + at) 0))) (sym there)
        (subst (λ k. slice_get new.transitions.items (length old.transitions.items + at) ≡ Some (To k (get_or new.stays.items (length old.transitions.items + at) 0))) (sym same) (told at slot lt has_there)))
        (λ other.
        let was : order_in old n ≡ order + 1 = sym (with_order.others n other) ∙ is in
        let bound = within n order was in
        let as_many = are.long in
        let there = some_at old.stays.items (order + at) (omega (arith, bound, lt, as_many)) in
        let stay_was = get_or_from_slice_get old.stays.items (order + at) there.0 0 there.1 in
        let stay_is = get_or_from_slice_get new.stays.items (order + at) there.0 0 (get_front old.stays.items new.stays.items (order + at) there.0 stays_front there.1) in
        let same : stay_at old order at ≡ stay_at new order at = stay_was ∙ sym stay_is in
        get_front old.transitions.items new.transitions.items (order + at) (To n (stay_at new order at)) front
        (subst (λ stay. slice_get old.transitions.items (order + at) ≡ Some (To n stay)) same
        (are.each n order at slot was lt (subst (λ stay. Has stay slot) (sym same) has))))
        (cases_eq n number);
  }

-- one more
pub stays_more : (number from n stay : ℕ) (transitions : List Transition) (stays : List ℕ) (transition : Transition) → length transitions ≡ from + n → length stays ≡ from + n → IsStay number stay transition
    → AreStaysTo number transitions stays from n → AreStaysTo number (transitions ++ transition ∷ []) (stays ++ stay ∷ []) from (n + 1)
stays_more number from n stay transitions stays transition long many is are at slot lt has =
    ⊎_elim
    (λ same.
    let place : from + at ≡ length transitions = omega (arith, same, long) in
    let last : get_or (stays ++ stay ∷ []) (from + at) 0 ≡ stay = ap (λ k. get_or (stays ++ stay ∷ []) k 0) (omega (arith, same, many)) ∙ get_or_from_slice_get (stays ++ stay ∷ []) (length stays) stay 0 (get_last stays stay) in
    ap (slice_get (transitions ++ transition ∷ [])) place ∙ get_last transitions transition ∙ ap Some (is slot (subst (λ s. Has s slot) last has)) ∙ ap (λ s. Some (To number s)) (sym last))
    (λ other.
    let less : at < n = omega (arith, lt, other) in
    let before : get_or (stays ++ stay ∷ []) (from + at) 0 ≡ get_or stays (from + at) 0 = get_or_append_left stays (stay ∷ []) 0 (from + at) (omega (arith, less, many)) in
    get_front transitions (transitions ++ transition ∷ []) (from + at) (To number (get_or (stays ++ stay ∷ []) (from + at) 0)) (IsPrefixOf-push transitions transition)
    (subst (λ s. slice_get transitions (from + at) ≡ Some (To number s)) (sym before) (are at slot less (subst (λ s. Has s slot) before has))))
    (cases_eq at n)
