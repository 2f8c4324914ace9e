-- the elements that a `retain` keeps, and why the others went
use Rattle.std.proofs.Common.{◌≡◌, ◌⊎◌, inl, inr, ⊎_elim, Bool, true, false, List, [], ◌∷◌, length, refl, sym, subst, arith}
use Rattle.std.specs.List.{Contains, items_where_true}
use Rattle.std.specs.List.Retain.{IsFiltered, ReturnsInTurn}
use Rattle.linspec.specs.Orders.{Pairwise}
use Rattle.linspec.proofs.Lists.{Contains-nil, Contains-head, Contains-tail, Contains-cons_cases}

module _ {X F : Type 0} (R : F → X → Bool → F → Type 0) (f : F) (P Q : X → Type 0)
    (says : (x : X) (b : Bool) (g : F) → R f x b g → (b ≡ true → P x) × (b ≡ false → Q x) × (g ≡ f)) where
  abbrev Turn : List Bool → List X → Type 0
  Turn bs xs = (q : F) × ReturnsInTurn R f bs xs q

  rest : (b : Bool) (bs : List Bool) (x : X) (xs : List X) → Turn (b ∷ bs) (x ∷ xs) → Turn bs xs
  rest b bs x xs t = (t.0, subst (λ g. ReturnsInTurn R g bs xs t.0) (says x b t.1.0 t.1.1).2 t.1.2)

  kept_from : (bs : List Bool) (xs : List X) → Turn bs xs → (y : X) → Contains (items_where_true bs xs) y → Contains xs y × P y
  kept_from [] xs t y h = absurd (Contains-nil y h)
  kept_from (b ∷ bs) [] t y h = absurd (Contains-nil y h)
  kept_from (true ∷ bs) (x ∷ xs) t y h = ⊎_elim
      (λ e. (subst (Contains (x ∷ xs)) e (Contains-head x xs), subst P e ((says x true t.1.0 t.1.1).0 refl)))
      (λ k. (let j = kept_from bs xs (rest true bs x xs t) y k in (Contains-tail x xs y j.0, j.1)))
      (Contains-cons_cases x (items_where_true bs xs) y h)
  kept_from (false ∷ bs) (x ∷ xs) t y h = let j = kept_from bs xs (rest false bs x xs t) y h in (Contains-tail x xs y j.0, j.1)

  kept_or : (bs : List Bool) (xs : List X) → Turn bs xs → length bs ≡ length xs → (y : X) → Contains xs y → Contains (items_where_true bs xs) y ⊎ Q y
  kept_or [] [] t l y h = absurd (Contains-nil y h)
  kept_or [] (x ∷ xs) t l y h = absurd (omega arith)
  kept_or (b ∷ bs) [] t l y h = absurd (Contains-nil y h)
  kept_or (true ∷ bs) (x ∷ xs) t l y h = ⊎_elim
      (λ e. inl (subst (Contains (x ∷ items_where_true bs xs)) e (Contains-head x (items_where_true bs xs))))
      (λ k. ⊎_elim (λ j. inl (Contains-tail x (items_where_true bs xs) y j)) (λ q. inr q) (kept_or bs xs (rest true bs x xs t) (omega arith) y k))
      (Contains-cons_cases x xs y h)
  kept_or (false ∷ bs) (x ∷ xs) t l y h = ⊎_elim
      (λ e. inr (subst Q e ((says x false t.1.0 t.1.1).1 refl)))
      (λ k. kept_or bs xs (rest false bs x xs t) (omega arith) y k)
      (Contains-cons_cases x xs y h)

  pairs_kept : (S : X → X → Type 0) (bs : List Bool) (xs : List X) → Turn bs xs → Pairwise S xs → Pairwise S (items_where_true bs xs)
  pairs_kept S [] xs t p = tt
  pairs_kept S (b ∷ bs) [] t p = tt
  pairs_kept S (true ∷ bs) (x ∷ xs) t p = ((λ y h. p.0 y (kept_from bs xs (rest true bs x xs t) y h).0), pairs_kept S bs xs (rest true bs x xs t) p.1)
  pairs_kept S (false ∷ bs) (x ∷ xs) t p = pairs_kept S bs xs (rest false bs x xs t) p.1

  module _ (xs ys : List X) (filtered : IsFiltered R f xs ys) where
    turn : Turn filtered.0 xs
    turn = (filtered.1, filtered.3)

    pub stays_from : (y : X) → Contains ys y → Contains xs y × P y
    stays_from y h = kept_from filtered.0 xs turn y (subst (λ l. Contains l y) filtered.4 h)

    pub stays_or : (y : X) → Contains xs y → Contains ys y ⊎ Q y
    stays_or y h = ⊎_elim (λ k. inl (subst (λ l. Contains l y) (sym filtered.4) k)) (λ q. inr q) (kept_or filtered.0 xs turn filtered.2 y h)

    pub pairs_stay : (S : X → X → Type 0) → Pairwise S xs → Pairwise S ys
    pairs_stay S p = subst (Pairwise S) (sym filtered.4) (pairs_kept S filtered.0 xs turn p)
