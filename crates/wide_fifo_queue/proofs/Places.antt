-- where an enqueue stands among others by its value
use Rattle.std.proofs.Common.{◌≡◌, ◌≢◌, ◌↔◌, ℕ, zero, suc, ◌+◌, ◌<◌, ◌≤◌, ℤ, ◌<ℤ◌, ◌≤ℤ◌, ◌⊎◌, inl, inr, ⊎_elim, List, [], ◌∷◌, ◌++◌, length, take, drop, get_or, refl, sym, ap, ◌∙◌, subst, arith}
use Rattle.std.specs.List.{Contains}
use Rattle.std.proofs.lemmas.Bool.{cases_lt}
use Rattle.std.proofs.lemmas.Int.{ints, by_lt_z}
use Rattle.std.proofs.lemmas.List.{take-append-drop, take_more, drop_more, drop_all, take_all}
use Rattle.std.proofs.lemmas.List.Elements.{Contains-append_left, Contains-append_right, Contains-append_cases, Contains-push_cases}
use Rattle.linspec.specs.Orders.{Pairwise}
use Rattle.linspec.proofs.Lists.{Contains-nil, Contains-head, Contains-tail, Contains-cons_cases, Pairwise-append, Pairwise-left, Pairwise-right, Pairwise-across}
use Rattle.wide_fifo_queue.specs.declared.known.Enqueued.{Enqueued}
use Rattle.wide_fifo_queue.specs.Facts.{IsByValue}
use Rattle.wide_fifo_queue.specs.Queries.{IsEndOf}
use Rattle.wide_fifo_queue.proofs.Knowing.{not_below_itself}

abbrev pub IsBelow : Enqueued → Enqueued → Type 0
IsBelow d e = d.value <ℤ e.value

below_all : (a b c : ℤ) → a <ℤ b → b <ℤ c → a <ℤ c
below_all a b c l m = omega (arith, ints)

strictly : (a b : ℤ) → a ≤ℤ b → a ≢ b → a <ℤ b
strictly a b h d = by_lt_z a b (λ l. l) (λ g. let e : a ≡ b = omega (arith, ints) in absurd (d e))

at_least : (a b c : ℤ) → a ≤ℤ b → b <ℤ c → a <ℤ c
at_least a b c l m = omega (arith, ints)

-- every list that is cut at a place
module _ {X : Type 0} (xs : List X) (at : ℕ) where
  pub in_take : (x : X) → Contains (take at xs) x → Contains xs x
  in_take x h = subst (λ l. Contains l x) (take-append-drop at xs) (Contains-append_left (take at xs) (drop at xs) x h)

  pub in_drop : (x : X) → Contains (drop at xs) x → Contains xs x
  in_drop x h = subst (λ l. Contains l x) (take-append-drop at xs) (Contains-append_right (take at xs) (drop at xs) x h)

  pub in_either : (x : X) → Contains xs x → Contains (take at xs) x ⊎ Contains (drop at xs) x
  in_either x h = Contains-append_cases (take at xs) (drop at xs) x (subst (λ l. Contains l x) (sym (take-append-drop at xs)) h)

  -- the one at the place, and those behind it
  module _ (x : X) (lt : at < length xs) (is : x ≡ get_or xs at x) where
    pub from_it : drop at xs ≡ x ∷ drop (at + 1) xs
    from_it = drop_more xs at x lt ∙ ap (λ y. y ∷ drop (at + 1) xs) (sym is)

    pub it_or_behind : (y : X) → Contains (drop at xs) y → (x ≡ y) ⊎ Contains (drop (at + 1) xs) y
    it_or_behind y h = Contains-cons_cases x (drop (at + 1) xs) y (subst (λ l. Contains l y) from_it h)

    pub it_is_in : Contains xs x
    it_is_in = in_drop x (subst (λ l. Contains l x) (sym from_it) (Contains-head x (drop (at + 1) xs)))

    pub behind_in : (y : X) → Contains (drop (at + 1) xs) y → Contains (drop at xs) y
    behind_in y h = subst (λ l. Contains l y) (sym from_it) (Contains-tail x (drop (at + 1) xs) y h)

module _ (xs : List Enqueued) (v : ℤ) (at : ℕ) (le : at ≤ length xs)
    (before : (k : ℕ) (d : Enqueued) → at ≡ k + 1 → (get_or xs k d).value <ℤ v)
    (there : (d : Enqueued) → at < length xs → v ≤ℤ (get_or xs at d).value) (by : IsByValue xs) where
  cut : Pairwise IsBelow (take at xs ++ drop at xs)
  cut = subst (Pairwise IsBelow) (sym (take-append-drop at xs)) by

  below_to : (n : ℕ) → n ≡ at → (e : Enqueued) → Contains (take n xs) e → e.value <ℤ v
  below_to zero q e h = absurd (Contains-nil e h)
  below_to (suc k) q e h =
      let next : at ≡ k + 1 = omega arith in
      let lt : k < length xs = omega arith in
      let last = get_or xs k e in
      let low : last.value <ℤ v = before k e next in
      let parts : take (k + 1) xs ≡ take k xs ++ last ∷ [] = take_more xs k e lt in
      let same : take (suc k) xs ≡ take (k + 1) xs = ap (λ m. take m xs) (let r : suc k ≡ k + 1 = omega arith in r) in
      let turn : Pairwise IsBelow (take k xs ++ last ∷ []) = subst (Pairwise IsBelow) parts (Pairwise-left IsBelow (take (k + 1) xs) (drop (k + 1) xs) (subst (Pairwise IsBelow) (sym (take-append-drop (k + 1) xs)) by)) in
      ⊎_elim
      (λ i. below_all e.value last.value v (Pairwise-across IsBelow (take k xs) (last ∷ []) turn e last i (Contains-head last [])) low)
      (λ (r : last ≡ e). subst (λ (x : Enqueued). x.value <ℤ v) r low)
      (Contains-push_cases (take k xs) last e (subst (λ l. Contains l e) (same ∙ parts) h))

  pub below : (e : Enqueued) → Contains (take at xs) e → e.value <ℤ v
  below e h = below_to at refl e h

  pub not_below : (e : Enqueued) → Contains (take at xs) e → e.value ≢ v
  not_below e h q = not_below_itself e.value v q (below e h)

  -- those behind the one at the place
  above_it : (x : Enqueued) (lt : at < length xs) (is : x ≡ get_or xs at x) (e : Enqueued) → Contains (drop (at + 1) xs) e → x.value <ℤ e.value
  above_it x lt is e h = (subst (Pairwise IsBelow) (from_it xs at x lt is) (Pairwise-right IsBelow (take at xs) (drop at xs) cut)).0 e h

  above : (x : Enqueued) (lt : at < length xs) (is : x ≡ get_or xs at x) → v ≤ℤ x.value
  above x lt is = subst (λ (y : Enqueued). v ≤ℤ y.value) (sym is) (there x lt)

  pub none_at_end : at ≡ length xs → (e : Enqueued) → Contains xs e → e.value ≢ v
  none_at_end q e h = not_below e (subst (λ l. Contains l e) (sym (take_all at xs (omega arith))) h)

  pub none_there : (x : Enqueued) → at < length xs → x ≡ get_or xs at x → x.value ≢ v → (e : Enqueued) → Contains xs e → e.value ≢ v
  none_there x lt is ne e h q = ⊎_elim
      (λ i. not_below e i q)
      (λ i. ⊎_elim
      (λ (r : x ≡ e). ne (ap (λ (y : Enqueued). y.value) r ∙ q))
      (λ j. not_below_itself v e.value (sym q) (at_least v x.value e.value (above x lt is) (above_it x lt is e j)))
      (it_or_behind xs at x lt is e i))
      (in_either xs at e h)

  module _ (to : ℕ) (end : IsEndOf xs at v to) where
    some_at : at < length xs → (x : Enqueued) × (x ≡ get_or xs at x)
    some_at lt = some_in xs at lt
      where
        some_in : (ys : List Enqueued) (n : ℕ) → n < length ys → (x : Enqueued) × (x ≡ get_or ys n x)
        some_in [] n l = absurd (omega arith)
        some_in (y ∷ ys) zero l = (y, refl)
        some_in (y ∷ ys) (suc n) l = some_in ys n (omega arith)

    pub behind : (e : Enqueued) → Contains (drop to xs) e → v <ℤ e.value
    behind e h = ⊎_elim
        (λ s.
        let x = some_at s.1 in
        at_least v x.0.value e.value (above x.0 s.1 x.1) (above_it x.0 s.1 x.1 e (subst (λ n. Contains (drop n xs) e) s.0 h)))
        (λ s. by_place (subst (λ n. Contains (drop n xs) e) s.0 h) s.1)
        end
      where
        by_place : Contains (drop at xs) e → ((x : Enqueued) → at < length xs → x ≡ get_or xs at x → x.value ≢ v) → v <ℤ e.value
        by_place i ne = ⊎_elim
            (λ lt.
            let x = some_at lt in
            ⊎_elim
            (λ (r : x.0 ≡ e). subst (λ (y : Enqueued). v <ℤ y.value) r (strictly v x.0.value (above x.0 lt x.1) (λ q. ne x.0 lt x.1 (sym q))))
            (λ j. at_least v x.0.value e.value (above x.0 lt x.1) (above_it x.0 lt x.1 e j))
            (it_or_behind xs at x.0 lt x.1 e i))
            (λ ge. absurd (Contains-nil e (subst (λ l. Contains l e) (drop_all at xs ge) i)))
            (cases_lt at (length xs))

    pub in_behind : (e : Enqueued) → Contains (drop to xs) e → Contains xs e
    in_behind e h = in_drop xs to e h

    -- an enqueue of another value stands before the place, or behind its end
    pub in_parts : (e : Enqueued) → Contains xs e → e.value ≢ v → Contains (take at xs) e ⊎ Contains (drop to xs) e
    in_parts e h ne = ⊎_elim
        inl
        (λ i. ⊎_elim
        (λ s.
        let x = some_at s.1 in
        ⊎_elim
        (λ (r : x.0 ≡ e). absurd (ne (ap (λ (y : Enqueued). y.value) (sym r) ∙ s.2 x.0 x.1)))
        (λ j. inr (subst (λ n. Contains (drop n xs) e) (sym s.0) j))
        (it_or_behind xs at x.0 s.1 x.1 e i))
        (λ s. inr (subst (λ n. Contains (drop n xs) e) (sym s.0) i))
        end)
        (in_either xs at e h)

    pub not_behind : (e : Enqueued) → Contains (drop to xs) e → e.value ≢ v
    not_behind e h q = not_below_itself v e.value (sym q) (behind e h)

    left : Pairwise IsBelow (take at xs)
    left = Pairwise-left IsBelow (take at xs) (drop at xs) cut

    right : Pairwise IsBelow (drop to xs)
    right = Pairwise-right IsBelow (take to xs) (drop to xs) (subst (Pairwise IsBelow) (sym (take-append-drop to xs)) by)

    pub ordered_without : IsByValue (take at xs ++ drop to xs)
    ordered_without = Pairwise-append IsBelow (take at xs) (drop to xs) left right (λ d e h k. below_all d.value v e.value (below d h) (behind e k))

    pub has_without : (e : Enqueued) → Contains (take at xs ++ drop to xs) e ↔ (Contains xs e × (e.value ≢ v))
    has_without e = (
      (λ h. ⊎_elim (λ i. (in_take xs at e i, not_below e i)) (λ i. (in_behind e i, not_behind e i)) (Contains-append_cases (take at xs) (drop to xs) e h)),
      (λ h. ⊎_elim (λ i. Contains-append_left (take at xs) (drop to xs) e i) (λ i. Contains-append_right (take at xs) (drop to xs) e i) (in_parts e h.0 h.1)),
    )

    module _ (entry : Enqueued) (same : entry.value ≡ v) where
      pub ordered_with : IsByValue (take at xs ++ entry ∷ drop to xs)
      ordered_with = Pairwise-append IsBelow (take at xs) (entry ∷ drop to xs) left
          ((λ e h. subst (λ w. w <ℤ e.value) (sym same) (behind e h)), right)
          (λ d e h k. ⊎_elim
          (λ (r : entry ≡ e). subst (λ (y : Enqueued). d.value <ℤ y.value) r (subst (λ w. d.value <ℤ w) (sym same) (below d h)))
          (λ j. below_all d.value v e.value (below d h) (behind e j))
          (Contains-cons_cases entry (drop to xs) e k))

      pub has_with : (e : Enqueued) → Contains (take at xs ++ entry ∷ drop to xs) e ↔ ((e ≡ entry) ⊎ (Contains xs e × (e.value ≢ v)))
      has_with e = (
        (λ h. ⊎_elim
            (λ i. inr (in_take xs at e i, not_below e i))
            (λ i. ⊎_elim (λ r. inl (sym r)) (λ j. inr (in_behind e j, not_behind e j)) (Contains-cons_cases entry (drop to xs) e i))
            (Contains-append_cases (take at xs) (entry ∷ drop to xs) e h)),
        (λ h. ⊎_elim
            (λ r. Contains-append_right (take at xs) (entry ∷ drop to xs) e (subst (Contains (entry ∷ drop to xs)) (sym r) (Contains-head entry (drop to xs))))
            (λ k. ⊎_elim
            (λ i. Contains-append_left (take at xs) (entry ∷ drop to xs) e i)
            (λ i. Contains-append_right (take at xs) (entry ∷ drop to xs) e (Contains-tail entry (drop to xs) e i))
            (in_parts e k.0 k.1))
            h),
      )
