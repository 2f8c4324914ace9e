-- one is put among others
use Rattle.std.proofs.Common.{◌≡◌, ◌↔◌, ◌⊎◌, inl, inr, ⊎_elim, ℕ, List, ◌∷◌, ◌++◌, take, drop, sym, subst}
use Rattle.std.specs.List.{Contains}
use Rattle.std.proofs.lemmas.List.{take-append-drop}
use Rattle.std.proofs.lemmas.List.Elements.{Contains-append_left, Contains-append_right, Contains-append_cases}
use Rattle.linspec.proofs.Lists.{Contains-head, Contains-tail, Contains-cons_cases}

pub insert_has : {X : Type 0} (xs : List X) (i : ℕ) (x y : X) → Contains (take i xs ++ x ∷ drop i xs) y ↔ (Contains xs y ⊎ (x ≡ y))
insert_has xs i x y = (
  (λ h. ⊎_elim
      (λ k. inl (subst (λ l. Contains l y) (take-append-drop i xs) (Contains-append_left (take i xs) (drop i xs) y k)))
      (λ k. ⊎_elim inr (λ j. inl (subst (λ l. Contains l y) (take-append-drop i xs) (Contains-append_right (take i xs) (drop i xs) y j))) (Contains-cons_cases x (drop i xs) y k))
      (Contains-append_cases (take i xs) (x ∷ drop i xs) y h)),
  (λ h. ⊎_elim
      (λ k. ⊎_elim
      (λ j. Contains-append_left (take i xs) (x ∷ drop i xs) y j)
      (λ j. Contains-append_right (take i xs) (x ∷ drop i xs) y (Contains-tail x (drop i xs) y j))
      (Contains-append_cases (take i xs) (drop i xs) y (subst (λ l. Contains l y) (sym (take-append-drop i xs)) k)))
      (λ e. Contains-append_right (take i xs) (x ∷ drop i xs) y (subst (Contains (x ∷ drop i xs)) e (Contains-head x (drop i xs))))
      h),
)
