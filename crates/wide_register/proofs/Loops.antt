-- the facts shown by a loop over a list so far
use Rattle.std.proofs.Common.{◌≡◌, ℕ, ◌+◌, ◌<◌, ◌≤◌, ⊎_elim, List, [], ◌∷◌, ◌++◌, length, take, get_or, sym, ap, ◌∙◌, subst}
use Rattle.std.specs.List.{Contains}
use Rattle.std.proofs.lemmas.List.{take_all, take_more}
use Rattle.std.proofs.lemmas.List.Elements.{Contains-push_cases}

module _ {X : Type 0} (P : X → Type 0) (xs : List X) where
  pub with_next : (i : ℕ) (x : X) → i < length xs → x ≡ get_or xs i x → ((y : X) → Contains (take i xs) y → P y) → P x → (y : X) → Contains (take (i + 1) xs) y → P y
  with_next i x h is before here y k = ⊎_elim (before y) (λ e. subst P e here) (Contains-push_cases (take i xs) x y (subst (λ l. Contains l y) (take_more xs i x h ∙ ap (λ z. take i xs ++ z ∷ []) (sym is)) k))

  pub of_all : (i : ℕ) → length xs ≤ i → ((y : X) → Contains (take i xs) y → P y) → (y : X) → Contains xs y → P y
  of_all i h before y k = before y (subst (λ l. Contains l y) (sym (take_all i xs h)) k)

  -- the same, if the next one is read from the list
  pub with_here : (i : ℕ) (d : X) → i < length xs → ((y : X) → Contains (take i xs) y → P y) → P (get_or xs i d) → (y : X) → Contains (take (i + 1) xs) y → P y
  with_here i d h before here y k = ⊎_elim (before y) (λ e. subst P e here) (Contains-push_cases (take i xs) (get_or xs i d) y (subst (λ l. Contains l y) (take_more xs i d h) k))
