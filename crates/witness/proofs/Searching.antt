-- a value among ones that never fall
use Rattle.std.proofs.Common.{◌≡◌, ◌≢◌, ℕ, ◌+◌, ◌<◌, ◌≤◌, ℤ, pos, ◌<ℤ◌, ◌≤ℤ◌, ⊎_elim, List, length, get_or, sym, ap, ◌∙◌, subst, arith, eq-or-lt_of_le}
use Rattle.std.specs.List.{Contains}
use Rattle.std.proofs.lemmas.Bool.{cases_order}
use Rattle.std.proofs.lemmas.Int.{ints}
use Rattle.std.proofs.lemmas.List.{get_or_default}
use Rattle.values.specs.Multisets.{NeverFalls}
use Rattle.values.proofs.Firsts.{never_falls_to}

module _ (xs : List ℤ) (is : NeverFalls xs) (v : ℤ) where
  rises : (i j : ℕ) → i ≤ j → j < length xs → get_or xs i (pos 0) ≤ℤ get_or xs j (pos 0)
  rises i j le fits = ⊎_elim
      (λ (e : i ≡ j). let same : get_or xs i (pos 0) ≡ get_or xs j (pos 0) = ap (λ k. get_or xs k (pos 0)) e in omega (arith, ints, same))
      (λ lt. never_falls_to xs is i j (pos 0) lt fits)
      (eq-or-lt_of_le le)

  pub below_middle : (m : ℕ) → m < length xs → get_or xs m (pos 0) <ℤ v → (i : ℕ) → i < m + 1 → get_or xs i (pos 0) <ℤ v
  below_middle m fits under i lt = let up = rises i m (omega arith) fits in omega (arith, ints, up, under)

  pub above_middle : (m : ℕ) → v ≤ℤ get_or xs m (pos 0) → (i : ℕ) → m ≤ i → i < length xs → v ≤ℤ get_or xs i (pos 0)
  above_middle m over i le fits = let up = rises m i le fits in omega (arith, ints, up, over)

  pub none_in : (low : ℕ) → ((i : ℕ) → i < low → get_or xs i (pos 0) <ℤ v) → ((i : ℕ) → low ≤ i → i < length xs → v ≤ℤ get_or xs i (pos 0)) → (low < length xs → get_or xs low (pos 0) ≢ v) → ¬ Contains xs v
  none_in low below above other h =
      let here : get_or xs h.0 (pos 0) ≡ v = get_or_default xs h.0 (pos 0) v h.1 ∙ h.2 in
      ⊎_elim
      (λ (e : h.0 ≡ low). other (subst (λ k. k < length xs) e h.1) (ap (λ k. get_or xs k (pos 0)) (sym e) ∙ here))
      (λ k. ⊎_elim
      (λ (l : h.0 < low). let b = below h.0 l in absurd (omega (arith, ints, b, here)))
      (λ (l : low < h.0).
      let lt : low < length xs = let g : h.0 < length xs = h.1 in omega arith in
      let a = above low (omega arith) lt in
      let up = rises low h.0 (omega arith) h.1 in
      let same : get_or xs low (pos 0) ≡ v = omega (arith, ints, a, up, here) in
      absurd (other lt same))
      k)
      (cases_order h.0 low)
