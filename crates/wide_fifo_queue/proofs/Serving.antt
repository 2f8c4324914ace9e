-- owed values that are served by takers, one by one, exactly where each has a taker of its own in time
use Rattle.std.proofs.Common.{◌≡◌, ◌≢◌, ℕ, ◌<◌, ◌≤◌, ℤ, ◌⊎◌, inl, inr, ⊎_elim, true, false, cond, nat_eq, List, [], ◌∷◌, length, refl, sym, ap, ◌∙◌, subst, arith}
use Rattle.std.specs.List.{Contains}
use Rattle.std.specs.Ordering.{int_eq}
use Rattle.std.proofs.lemmas.Bool.{cases_Bool, true≢false, eqb-true, eq-eqb}
use Rattle.std.proofs.lemmas.Bool.Decides.{Decides-int_eq}
use Rattle.linspec.specs.Orders.{Pairwise}
use Rattle.linspec.proofs.Lists.{Contains-nil, Contains-head, Contains-tail, Contains-cons_cases}
use Rattle.wide_fifo_queue.specs.declared.known.Owed.{Owed}
use Rattle.wide_fifo_queue.specs.Facts.{IsServed}

-- each owed value is given a moment of its own by its deadline
pub record Serves (takers : List ℕ) (owed : List Owed) (give : ℤ → ℕ) : Type 0 where
  pub among : (o : Owed) → Contains owed o → Contains takers (give o.value)
  pub in_time : (o : Owed) → Contains owed o → give o.value ≤ o.deadline
  pub apart : (o p : Owed) → Contains owed o → Contains owed p → give o.value ≡ give p.value → o.value ≡ p.value

abbrev pub IsInTurn : Owed → Owed → Type 0
IsInTurn o p = (o.deadline ≤ p.deadline) × (o.value ≢ p.value)

abbrev pub IsLess : ℕ → ℕ → Type 0
IsLess s t = s < t

same_int : (x y : ℤ) → x ≡ y → int_eq x y ≡ true
same_int x y e = (Decides-int_eq x y).1 e

pub other_int : (x y : ℤ) → x ≢ y → int_eq x y ≡ false
other_int x y ne = ⊎_elim (λ (t : int_eq x y ≡ true). absurd (ne ((Decides-int_eq x y).0 t))) (λ f. f) (cases_Bool (int_eq x y))

pub same_int_or_not : (x y : ℤ) → (x ≡ y) ⊎ (x ≢ y)
same_int_or_not x y = ⊎_elim (λ (t : int_eq x y ≡ true). inl ((Decides-int_eq x y).0 t)) (λ (f : int_eq x y ≡ false). inr (λ e. true≢false (sym (same_int x y e) ∙ f))) (cases_Bool (int_eq x y))

module _ (t : ℕ) (takers : List ℕ) (o : Owed) (owed : List Owed) (apart : (p : Owed) → Contains owed p → o.value ≢ p.value) (above : (s : ℕ) → Contains takers s → t < s)
    (give : ℤ → ℕ) (serves : Serves takers owed give) where
  abbrev first_too : ℤ → ℕ
  first_too u = cond (int_eq u o.value) t (give u)

  at_first : first_too o.value ≡ t
  at_first = ap (λ b. cond b t (give o.value)) (same_int o.value o.value refl)

  at_later : (p : Owed) → Contains owed p → first_too p.value ≡ give p.value
  at_later p h = ap (λ b. cond b t (give p.value)) (other_int p.value o.value (λ e. apart p h (sym e)))

  later_above : (p : Owed) → Contains owed p → t < first_too p.value
  later_above p h = subst (λ n. t < n) (sym (at_later p h)) (above (give p.value) (serves.among p h))

  serves_first_too : t ≤ o.deadline → Serves (t ∷ takers) (o ∷ owed) first_too
  serves_first_too le = record {
    among = λ p h. ⊎_elim
        (λ (e : o ≡ p). subst (λ (q : Owed). Contains (t ∷ takers) (first_too q.value)) e (subst (Contains (t ∷ takers)) (sym at_first) (Contains-head t takers)))
        (λ k. subst (Contains (t ∷ takers)) (sym (at_later p k)) (Contains-tail t takers (give p.value) (serves.among p k)))
        (Contains-cons_cases o owed p h);
    in_time = λ p h. ⊎_elim
        (λ (e : o ≡ p). subst (λ (q : Owed). first_too q.value ≤ q.deadline) e (subst (λ n. n ≤ o.deadline) (sym at_first) le))
        (λ k. subst (λ n. n ≤ p.deadline) (sym (at_later p k)) (serves.in_time p k))
        (Contains-cons_cases o owed p h);
    apart = λ p q h k same. ⊎_elim
        (λ (e : o ≡ p). ⊎_elim
        (λ (f : o ≡ q). ap (λ (x : Owed). x.value) (sym e ∙ f))
        (λ j.
        let lt : t < first_too q.value = later_above q j in
        let is : first_too p.value ≡ t = ap (λ (x : Owed). first_too x.value) (sym e) ∙ at_first in
        absurd (omega arith))
        (Contains-cons_cases o owed q k))
        (λ i. ⊎_elim
        (λ (f : o ≡ q).
        let lt : t < first_too p.value = later_above p i in
        let is : first_too q.value ≡ t = ap (λ (x : Owed). first_too x.value) (sym f) ∙ at_first in
        absurd (omega arith))
        (λ j. serves.apart p q i j (sym (at_later p i) ∙ same ∙ at_later q j))
        (Contains-cons_cases o owed q k))
        (Contains-cons_cases o owed p h);
  }

pub served_gives : (takers : List ℕ) (owed : List Owed) → Pairwise IsLess takers → Pairwise IsInTurn owed → IsServed takers owed → (give : ℤ → ℕ) × Serves takers owed give
served_gives takers [] asc turn s = ((λ u. 0), record { among = λ o h. absurd (Contains-nil o h); in_time = λ o h. absurd (Contains-nil o h); apart = λ o p h k e. absurd (Contains-nil o h) })
served_gives [] (o ∷ owed) asc turn s = absurd s
served_gives (t ∷ takers) (o ∷ owed) asc turn s =
    let rest = served_gives takers owed asc.1 turn.1 s.1 in
    (first_too t takers o owed (λ p h. (turn.0 p h).1) asc.0 rest.0 rest.1, serves_first_too t takers o owed (λ p h. (turn.0 p h).1) asc.0 rest.0 rest.1 s.0)

module _ (t : ℕ) (takers : List ℕ) (o : Owed) (owed : List Owed) (turn : (p : Owed) → Contains owed p → IsInTurn o p) (above : (s : ℕ) → Contains takers s → t < s)
    (give : ℤ → ℕ) (serves : Serves (t ∷ takers) (o ∷ owed) give) where
  -- the value that had the first taker gets that of the first value
  abbrev swapped : ℤ → ℕ
  swapped u = cond (nat_eq (give u) t) (give o.value) (give u)

  cases : (u : ℤ) → ((give u ≡ t) × (swapped u ≡ give o.value)) ⊎ ((give u ≢ t) × (swapped u ≡ give u))
  cases u = ⊎_elim
      (λ (e : nat_eq (give u) t ≡ true). inl (eqb-true (give u) t e, ap (λ b. cond b (give o.value) (give u)) e))
      (λ (e : nat_eq (give u) t ≡ false). inr ((λ same. true≢false (sym (eq-eqb (give u) t same) ∙ e)), ap (λ b. cond b (give o.value) (give u)) e))
      (cases_Bool (nat_eq (give u) t))

  here : Contains (o ∷ owed) o
  here = Contains-head o owed

  there : (p : Owed) → Contains owed p → Contains (o ∷ owed) p
  there p h = Contains-tail o owed p h

  -- two values that differ
  differ : (p : Owed) → Contains owed p → give o.value ≢ give p.value
  differ p h e = (turn p h).1 (serves.apart o p here (there p h) e)

  in_tail : (n : ℕ) → Contains (t ∷ takers) n → n ≢ t → Contains takers n
  in_tail n h ne = ⊎_elim (λ (e : t ≡ n). absurd (ne (sym e))) (λ k. k) (Contains-cons_cases t takers n h)

  pub first_in_time : t ≤ o.deadline
  first_in_time =
      let le : give o.value ≤ o.deadline = serves.in_time o here in
      ⊎_elim
      (λ (e : t ≡ give o.value). omega arith)
      (λ k. (let lt : t < give o.value = above (give o.value) k in omega arith))
      (Contains-cons_cases t takers (give o.value) (serves.among o here))

  pub serves_rest : Serves takers owed swapped
  serves_rest = record {
    among = λ p h. ⊎_elim
        (λ y. subst (Contains takers) (sym y.1) (in_tail (give o.value) (serves.among o here) (λ e. differ p h (e ∙ sym y.0))))
        (λ n. subst (Contains takers) (sym n.1) (in_tail (give p.value) (serves.among p (there p h)) n.0))
        (cases p.value);
    in_time = λ p h. ⊎_elim
        (λ y.
        let le : give o.value ≤ o.deadline = serves.in_time o here in
        let more : o.deadline ≤ p.deadline = (turn p h).0 in
        let is : swapped p.value ≡ give o.value = y.1 in
        omega arith)
        (λ n. (let le : give p.value ≤ p.deadline = serves.in_time p (there p h) in let is : swapped p.value ≡ give p.value = n.1 in omega arith))
        (cases p.value);
    apart = λ p q h k same. ⊎_elim
        (λ y. ⊎_elim
        (λ z. serves.apart p q (there p h) (there q k) (y.0 ∙ sym z.0))
        (λ n. absurd (differ q k (sym y.1 ∙ same ∙ n.1)))
        (cases q.value))
        (λ n. ⊎_elim
        (λ z. absurd (differ p h (sym z.1 ∙ sym same ∙ n.1)))
        (λ m. serves.apart p q (there p h) (there q k) (sym n.1 ∙ same ∙ m.1))
        (cases q.value))
        (cases p.value);
  }

pub gives_served : (takers : List ℕ) (owed : List Owed) → Pairwise IsLess takers → Pairwise IsInTurn owed → (give : ℤ → ℕ) → Serves takers owed give → IsServed takers owed
gives_served takers [] asc turn give serves = tt
gives_served [] (o ∷ owed) asc turn give serves = Contains-nil (give o.value) (serves.among o (Contains-head o owed))
gives_served (t ∷ takers) (o ∷ owed) asc turn give serves = (
  first_in_time t takers o owed turn.0 asc.0 give serves,
  gives_served takers owed asc.1 turn.1 (swapped t takers o owed turn.0 asc.0 give serves) (serves_rest t takers o owed turn.0 asc.0 give serves),
)

-- no more values are served than there are takers
pub served_no_longer : (takers : List ℕ) (owed : List Owed) → IsServed takers owed → length owed ≤ length takers
served_no_longer takers [] s = omega arith
served_no_longer [] (o ∷ owed) s = absurd s
served_no_longer (t ∷ takers) (o ∷ owed) s = let le : length owed ≤ length takers = served_no_longer takers owed s.1 in omega arith
