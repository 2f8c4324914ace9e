-- how often a value is among values that never fall, by places
use Rattle.std.proofs.Common.{◌≡◌, ◌≢◌, ℕ, zero, suc, ◌+◌, ◌-◌, ◌<◌, ◌≤◌, ℤ, pos, ◌<ℤ◌, ◌≤ℤ◌, ⊎_elim, cond, List, [], ◌∷◌, length, get_or, remove, refl, sym, ap, ◌∙◌, subst, arith}
use Rattle.std.specs.List.{Contains}
use Rattle.std.specs.Ordering.{int_eq}
use Rattle.std.proofs.lemmas.Bool.{cases_lt}
use Rattle.std.proofs.lemmas.Int.{ints}
use Rattle.std.proofs.lemmas.List.{get_or_default}
use Rattle.models.specs.Runs.{times_in}
use Rattle.values.specs.Multisets.{NeverFalls, without_one}
use Rattle.values.proofs.Bags.{same_int, other_int, without_one-place, without_one-later}
use Rattle.values.proofs.Past.{no_higher}
use Rattle.linspec.proofs.Lists.{Contains-head, Contains-tail}
use Rattle.bag_matches.proofs.Steps.{times_cons}

less_apart : (a b : ℤ) → a <ℤ b → a ≢ b
less_apart a b h e = let l : b <ℤ b = subst (λ z. z <ℤ b) e h in omega (arith, ints)

squeezed : (a b : ℤ) → a ≤ℤ b → b ≤ℤ a → a ≡ b
squeezed a b h k = omega (arith, ints)

-- those before one place are less, those from there up to another are equal, and those behind it are greater
times_between : (v : ℤ) (xs : List ℤ) (from to : ℕ) → from ≤ to → to ≤ length xs
    → ((k : ℕ) → k < from → get_or xs k (pos 0) <ℤ v)
    → ((k : ℕ) → from ≤ k → k < to → get_or xs k (pos 0) ≡ v)
    → ((k : ℕ) → to ≤ k → k < length xs → v <ℤ get_or xs k (pos 0))
    → times_in v xs + from ≡ to
times_between v [] from to le fits below same above = let none : times_in v [] ≡ 0 = refl in omega (arith, none)
times_between v (x ∷ xs) (suc from) zero le fits below same above = absurd (omega arith)
times_between v (x ∷ xs) (suc from) (suc to) le fits below same above =
    let r = times_between v xs from to (omega arith) (omega arith) (λ k h. below (suc k) (omega arith)) (λ k h i. same (suc k) (omega arith) (omega arith)) (λ k h i. above (suc k) (omega arith) (omega arith)) in
    let c = times_cons v x xs in
    let n : cond {A = ℕ} (int_eq x v) 1 0 ≡ 0 = ap (λ b. cond b 1 0) (other_int x v (less_apart x v (below 0 (omega arith)))) in
    omega (arith, r, c, n)
times_between v (x ∷ xs) zero (suc to) le fits below same above =
    let r = times_between v xs zero to (omega arith) (omega arith) (λ k h. absurd (omega arith)) (λ k h i. same (suc k) (omega arith) (omega arith)) (λ k h i. above (suc k) (omega arith) (omega arith)) in
    let c = times_cons v x xs in
    let n : cond {A = ℕ} (int_eq x v) 1 0 ≡ 1 = ap (λ b. cond b 1 0) (same_int x v (same 0 (omega arith) (omega arith))) in
    omega (arith, r, c, n)
times_between v (x ∷ xs) zero zero le fits below same above =
    let r = times_between v xs zero zero (omega arith) (omega arith) (λ k h. absurd (omega arith)) (λ k h i. absurd (omega arith)) (λ k h i. above (suc k) (omega arith) (omega arith)) in
    let c = times_cons v x xs in
    let n : cond {A = ℕ} (int_eq x v) 1 0 ≡ 0 = ap (λ b. cond b 1 0) (other_int x v (λ e. less_apart v x (above 0 (omega arith) (omega arith)) (sym e))) in
    omega (arith, r, c, n)

contained_at : (xs : List ℤ) (y : ℤ) → Contains xs y → (k : ℕ) × (k < length xs) × (get_or xs k (pos 0) ≡ y)
contained_at xs y h = (h.0, h.1, get_or_default xs h.0 (pos 0) y h.1 ∙ h.2)

-- the value belongs at this place
pub record IsPlace (xs : List ℤ) (v : ℤ) (at : ℕ) : Type 0 where
  pub within : at ≤ length xs
  pub before : (k : ℕ) → at ≡ k + 1 → get_or xs k (pos 0) <ℤ v
  pub there : at < length xs → v ≤ℤ get_or xs at (pos 0)

-- the values behind it begin at this place
pub record IsEnd (xs : List ℤ) (v : ℤ) (at : ℕ) : Type 0 where
  pub within : at ≤ length xs
  pub before : (k : ℕ) → at ≡ k + 1 → get_or xs k (pos 0) ≤ℤ v
  pub there : at < length xs → v <ℤ get_or xs at (pos 0)

none_in : (v : ℤ) (ys : List ℤ) → ((y : ℤ) → Contains ys y → y ≢ v) → without_one v ys ≡ ys
none_in v [] none = refl
none_in v (y ∷ ys) none = without_one-later v y ys (other_int y v (none y (Contains-head y ys))) ∙ ap (λ l. y ∷ l) (none_in v ys (λ z h. none z (Contains-tail y ys z h)))

module _ (xs : List ℤ) (is : NeverFalls xs) (v : ℤ) (at : ℕ) (place : IsPlace xs v at) where
  pub below : (k : ℕ) → k < at → get_or xs k (pos 0) <ℤ v
  below k h =
      let j = at - 1 in
      let next : at ≡ j + 1 = omega arith in
      let fits : at ≤ length xs = place.within in
      let last : get_or xs j (pos 0) <ℤ v = place.before j next in
      let under : get_or xs k (pos 0) ≤ℤ get_or xs j (pos 0) = no_higher xs is k j (omega arith) (omega arith) in
      omega (arith, ints)

  pub not_below : (k : ℕ) → at ≤ k → k < length xs → v ≤ℤ get_or xs k (pos 0)
  not_below k h fits =
      let there : v ≤ℤ get_or xs at (pos 0) = place.there (omega arith) in
      let over : get_or xs at (pos 0) ≤ℤ get_or xs k (pos 0) = no_higher xs is at k h fits in
      omega (arith, ints)

  -- one less of a value that stands at its place
  pub without_here : at < length xs → get_or xs at v ≡ v → remove xs at ≡ without_one v xs
  without_here fits here = sym (without_one-place v xs at fits here (λ k h e. (
      let lt : get_or xs k (pos 0) <ℤ v = below k h in
      let default : get_or xs k (pos 0) ≡ get_or xs k v = get_or_default xs k (pos 0) v (omega arith) in
      less_apart (get_or xs k (pos 0)) v lt (default ∙ e))))

  -- and none of one that does not
  pub without_none : ¬ ((at < length xs) × (get_or xs at v ≡ v)) → xs ≡ without_one v xs
  without_none not = sym (none_in v xs (λ y h e. (
      let r = contained_at xs y h in
      each r.0 r.1 (r.2 ∙ e))))
    where
      each : (k : ℕ) → k < length xs → get_or xs k (pos 0) ≢ v
      each k fits e = ⊎_elim
          (λ (lt : k < at). less_apart (get_or xs k (pos 0)) v (below k lt) e)
          (λ (le : at ≤ k).
          let low : at < length xs = omega arith in
          let there : v ≤ℤ get_or xs at (pos 0) = place.there low in
          let over : get_or xs at (pos 0) ≤ℤ v = subst (λ z. get_or xs at (pos 0) ≤ℤ z) e (no_higher xs is at k le fits) in
          let here : get_or xs at (pos 0) ≡ v = squeezed (get_or xs at (pos 0)) v over there in
          not (low, sym (get_or_default xs at (pos 0) v low) ∙ here))
          (cases_lt k at)

  -- how often it is in
  module _ (to : ℕ) (end : IsEnd xs v to) where
    after : (k : ℕ) → to ≤ k → k < length xs → v <ℤ get_or xs k (pos 0)
    after k h fits =
        let there : v <ℤ get_or xs to (pos 0) = end.there (omega arith) in
        let over : get_or xs to (pos 0) ≤ℤ get_or xs k (pos 0) = no_higher xs is to k h fits in
        omega (arith, ints)

    up_to : (k : ℕ) → k < to → get_or xs k (pos 0) ≤ℤ v
    up_to k h =
        let j = to - 1 in
        let next : to ≡ j + 1 = omega arith in
        let fits : to ≤ length xs = end.within in
        let last : get_or xs j (pos 0) ≤ℤ v = end.before j next in
        let under : get_or xs k (pos 0) ≤ℤ get_or xs j (pos 0) = no_higher xs is k j (omega arith) (omega arith) in
        omega (arith, ints)

    ordered : at ≤ to
    ordered = ⊎_elim
        (λ (lt : to < at).
        let fits : at ≤ length xs = place.within in
        let low : get_or xs to (pos 0) <ℤ v = below to lt in
        let high : v <ℤ get_or xs to (pos 0) = end.there (omega arith) in
        absurd (omega (arith, ints)))
        (λ le. le)
        (cases_lt to at)

    pub times_is : to - at ≡ times_in v xs
    times_is =
        let t = times_between v xs at to ordered end.within below
        (λ k h lt. (let fits : to ≤ length xs = end.within in squeezed (get_or xs k (pos 0)) v (up_to k lt) (not_below k h (omega arith))))
        after in
        omega (arith, t)
