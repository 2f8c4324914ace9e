-- the first of each value in a list that never falls
use Rattle.std.proofs.Common.{◌≡◌, ◌≢◌, ℕ, zero, suc, ◌+◌, ◌<◌, ℤ, ◌<ℤ◌, ◌≤ℤ◌, ⊎_elim, List, [], ◌∷◌, ◌++◌, length, get_or, take, remove, sym, ◌∙◌, subst, arith, eq-or-lt_of_le}
use Rattle.std.specs.List.{Contains}
use Rattle.std.proofs.lemmas.Int.{ints, by_lt_z}
use Rattle.std.proofs.lemmas.List.{get_or_default, get_or-take, length-take, take_more}
use Rattle.std.proofs.lemmas.List.Elements.{Contains-append_left, Contains-push, Contains-push_cases, Contains-get_or}
use Rattle.values.specs.Members.{IsAscending}
use Rattle.values.specs.Multisets.{NeverFalls, without_one, values_of}
use Rattle.values.proofs.PutIn.{no_member, first_member, later_member}
use Rattle.values.proofs.Sorting.{one_ascending}
use Rattle.values.proofs.Bags.{without_one-place, Contains-values_of, IsAscending-values_of}

-- a list that never falls
pub never_falls_to : (xs : List ℤ) → NeverFalls xs → (i j : ℕ) (d : ℤ) → i < j → j < length xs → get_or xs i d ≤ℤ get_or xs j d
never_falls_to [] is i j d lt fits = absurd (omega arith)
never_falls_to (x ∷ xs) is i zero d lt fits = absurd (omega arith)
never_falls_to (x ∷ xs) is zero (suc j) d lt fits = is.0 (get_or xs j d) (Contains-get_or xs j d (omega arith))
never_falls_to (x ∷ xs) is (suc i) (suc j) d lt fits = never_falls_to xs is.1 i j d (omega arith) (omega arith)

pub strictly : (a b : ℤ) → a ≤ℤ b → a ≢ b → a <ℤ b
strictly a b h d = by_lt_z a b (λ l. l) (λ g. let e : a ≡ b = omega (arith, ints) in absurd (d e))

-- all before the first of a value are below it
below_first : (xs : List ℤ) → NeverFalls xs → (at : ℕ) (d : ℤ) → at < length xs
    → ((p : ℕ) (e : ℤ) → p + 1 ≡ at → get_or xs p e ≢ get_or xs at e) → (i : ℕ) → i < at → get_or xs i d <ℤ get_or xs at d
below_first xs is zero d fits new i lt = absurd (omega arith)
below_first xs is (suc p) d fits new i lt =
    let last : get_or xs p d ≤ℤ get_or xs (suc p) d = never_falls_to xs is p (suc p) d (omega arith) fits in
    let other : get_or xs p d ≢ get_or xs (suc p) d = new p d (omega arith) in
    let under : get_or xs p d <ℤ get_or xs (suc p) d = strictly (get_or xs p d) (get_or xs (suc p) d) last other in
    ⊎_elim
    (λ (e : i ≡ p). subst (λ k. get_or xs k d <ℤ get_or xs (suc p) d) (sym e) under)
    (λ (l : i < p). let low : get_or xs i d ≤ℤ get_or xs p d = never_falls_to xs is i p d l (omega arith) in omega (arith, ints))
    (eq-or-lt_of_le (omega arith))

-- a greater value behind an ascending list
IsAscending-push : (xs : List ℤ) (v : ℤ) → IsAscending xs → ((y : ℤ) → Contains xs y → y <ℤ v) → IsAscending (xs ++ v ∷ [])
IsAscending-push [] v is above = ((λ y h. absurd (no_member y h)), tt)
IsAscending-push (x ∷ xs) v is above = (
  (λ y h. ⊎_elim (is.0 y) (λ e. subst (λ z. x <ℤ z) e (above x (first_member x xs))) (Contains-push_cases xs v y h)),
  IsAscending-push xs v is.1 (λ y h. above y (later_member x xs y h)),
)

module _ (s : List ℤ) (at : ℕ) (d : ℤ) (fits : at < length s) (is : NeverFalls s) where
  abbrev v : ℤ
  v = get_or s at d

  -- an element among the first at values
  place_in : (y : ℤ) → Contains (take at s) y → (i : ℕ) × (i < at) × (get_or s i y ≡ y)
  place_in y h =
      let long = length-take at s in
      let low : h.0 < length (take at s) = h.1 in
      let under : h.0 < at = omega arith in
      (h.0, under, sym (get_or-take at s h.0 y under) ∙ h.2)

  in_place : (i : ℕ) (y : ℤ) → i < at → get_or s i y ≡ y → Contains (take at s) y
  in_place i y lt e = let long = length-take at s in (i, omega arith, get_or-take at s i y lt ∙ e)

  one_more : take (at + 1) s ≡ take at s ++ v ∷ []
  one_more = take_more s at d fits

  -- a value that was not there
  module _ (new : (p : ℕ) (e : ℤ) → p + 1 ≡ at → get_or s p e ≢ get_or s at e) where
    above : (y : ℤ) → Contains (take at s) y → y <ℤ v
    above y h =
        let there = place_in y h in
        let l : get_or s there.0 d <ℤ v = below_first s is at d fits new there.0 there.1 in
        let same : get_or s there.0 d ≡ y = get_or_default s there.0 d y (let lt : there.0 < at = there.1 in omega arith) ∙ there.2 in
        subst (λ z. z <ℤ v) same l

    pub values_new : values_of (take (at + 1) s) ≡ values_of (take at s) ++ v ∷ []
    values_new =
        one_ascending (values_of (take (at + 1) s)) (values_of (take at s) ++ v ∷ []) (IsAscending-values_of (take (at + 1) s))
        (IsAscending-push (values_of (take at s)) v (IsAscending-values_of (take at s)) (λ y h. above y ((Contains-values_of (take at s) y).0 h)))
        (λ y. (
          (λ h. ⊎_elim
              (λ k. Contains-append_left (values_of (take at s)) (v ∷ []) y ((Contains-values_of (take at s) y).1 k))
              (λ e. subst (Contains (values_of (take at s) ++ v ∷ [])) e (Contains-push (values_of (take at s)) v))
              (Contains-push_cases (take at s) v y (subst (λ l. Contains l y) one_more ((Contains-values_of (take (at + 1) s) y).0 h)))),
          (λ h. (Contains-values_of (take (at + 1) s) y).1 (subst (λ l. Contains l y) (sym one_more) (⊎_elim
              (λ k. Contains-append_left (take at s) (v ∷ []) y ((Contains-values_of (take at s) y).0 k))
              (λ e. subst (Contains (take at s ++ v ∷ [])) e (Contains-push (take at s) v))
              (Contains-push_cases (values_of (take at s)) v y h)))),
        ))

    pub first_is_taken : without_one v s ≡ remove s at
    first_is_taken = without_one-place v s at fits (get_or_default s at v d fits) (λ k lt e.
        let l : get_or s k d <ℤ v = below_first s is at d fits new k lt in
        let same : get_or s k d ≡ v = get_or_default s k d v (omega arith) ∙ e in
        let m : v <ℤ v = subst (λ z. z <ℤ v) same l in
        absurd (omega (arith, ints)))

  -- one that was
  module _ (p : ℕ) (before : p + 1 ≡ at) (equal : get_or s p d ≡ get_or s at d) where
    there_already : (y : ℤ) → v ≡ y → Contains (take at s) y
    there_already y e = in_place p y (omega arith) (get_or_default s p y d (omega arith) ∙ equal ∙ e)

    pub values_old : values_of (take (at + 1) s) ≡ values_of (take at s)
    values_old =
        one_ascending (values_of (take (at + 1) s)) (values_of (take at s)) (IsAscending-values_of (take (at + 1) s)) (IsAscending-values_of (take at s))
        (λ y. (
          (λ h. (Contains-values_of (take at s) y).1 (⊎_elim (λ k. k) (there_already y) (Contains-push_cases (take at s) v y (subst (λ l. Contains l y) one_more ((Contains-values_of (take (at + 1) s) y).0 h))))),
          (λ h. (Contains-values_of (take (at + 1) s) y).1 (subst (λ l. Contains l y) (sym one_more) (Contains-append_left (take at s) (v ∷ []) y ((Contains-values_of (take at s) y).0 h)))),
        ))
