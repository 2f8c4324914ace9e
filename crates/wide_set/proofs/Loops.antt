-- the facts shown by a loop over a list so far
use Rattle.std.proofs.Common.{◌≡◌, ◌↔◌, ℕ, ◌+◌, ◌<◌, ◌≤◌, ◌⊎◌, inl, inr, ⊎_elim, List, [], ◌∷◌, ◌++◌, length, take, get_or, sym, ap, ◌∙◌, subst}
use Rattle.std.specs.List.{Contains}
use Rattle.std.proofs.lemmas.List.{take_all, take_more}
use Rattle.std.proofs.lemmas.List.Elements.{Contains-append_left, Contains-push, Contains-push_cases}
use Rattle.linspec.proofs.Lists.{Contains-nil}

module _ {X : Type 0} (P : X → Type 0) (xs : List X) where
  pub with_next : (i : ℕ) (x : X) → i < length xs → x ≡ get_or xs i x → ((y : X) → Contains (take i xs) y → P y) → P x → (y : X) → Contains (take (i + 1) xs) y → P y
  with_next i x h is before here y k = ⊎_elim (before y) (λ e. subst P e here) (Contains-push_cases (take i xs) x y (subst (λ l. Contains l y) (take_more xs i x h ∙ ap (λ z. take i xs ++ z ∷ []) (sym is)) k))

  pub of_all : (i : ℕ) → length xs ≤ i → ((y : X) → Contains (take i xs) y → P y) → (y : X) → Contains xs y → P y
  of_all i h before y k = before y (subst (λ l. Contains l y) (sym (take_all i xs h)) k)

  -- the same, if the next one is read from the list
  pub with_here : (i : ℕ) (d : X) → i < length xs → ((y : X) → Contains (take i xs) y → P y) → P (get_or xs i d) → (y : X) → Contains (take (i + 1) xs) y → P y
  with_here i d h before here y k = ⊎_elim (before y) (λ e. subst P e here) (Contains-push_cases (take i xs) (get_or xs i d) y (subst (λ l. Contains l y) (take_more xs i d h) k))

-- some element of which P holds, among those so far
module _ {X : Type 0} (P : X → Type 0) (xs : List X) where
  abbrev pub HasSome : List X → Type 0
  HasSome ys = (x : X) × Contains ys x × P x

  pub none_at_first : ¬ HasSome (take 0 xs)
  none_at_first h = Contains-nil h.0 h.1

  pub some_of_all : (i : ℕ) → length xs ≤ i → HasSome (take i xs) ↔ HasSome xs
  some_of_all i le = (
    (λ h. (h.0, subst (λ l. Contains l h.0) (take_all i xs le) h.1, h.2)),
    (λ h. (h.0, subst (λ l. Contains l h.0) (sym (take_all i xs le)) h.1, h.2)),
  )

  pub some_with_here : (i : ℕ) (d : X) → i < length xs → HasSome (take (i + 1) xs) ↔ (HasSome (take i xs) ⊎ P (get_or xs i d))
  some_with_here i d lt = (
    (λ h. ⊎_elim
        (λ k. inl (h.0, k, h.2))
        (λ e. inr (subst P (sym e) h.2))
        (Contains-push_cases (take i xs) (get_or xs i d) h.0 (subst (λ l. Contains l h.0) (take_more xs i d lt) h.1))),
    (λ h. ⊎_elim
        (λ k. (k.0, subst (λ l. Contains l k.0) (sym (take_more xs i d lt)) (Contains-append_left (take i xs) (get_or xs i d ∷ []) k.0 k.1), k.2))
        (λ p. (get_or xs i d, subst (λ l. Contains l (get_or xs i d)) (sym (take_more xs i d lt)) (Contains-push (take i xs) (get_or xs i d)), p))
        h),
  )

-- either of two, where the second grows step by step
pub either_grows : {A B C D E F P : Type 0} → A ↔ (B ⊎ C) → B ↔ (D ⊎ E) → C ↔ P → F ↔ (E ⊎ P) → A ↔ (D ⊎ F)
either_grows a b p f = (
  (λ x. ⊎_elim (λ y. ⊎_elim inl (λ e. inr (f.1 (inl e))) (b.0 y)) (λ c. inr (f.1 (inr (p.0 c)))) (a.0 x)),
  (λ x. ⊎_elim (λ d. a.1 (inl (b.1 (inl d)))) (λ y. ⊎_elim (λ e. a.1 (inl (b.1 (inr e)))) (λ q. a.1 (inr (p.1 q))) (f.0 y)) x),
)

pub either_same : {A D E F : Type 0} → A ↔ (D ⊎ E) → E ↔ F → A ↔ (D ⊎ F)
either_same a f = (
  (λ x. ⊎_elim inl (λ e. inr (f.0 e)) (a.0 x)),
  (λ x. ⊎_elim (λ d. a.1 (inl d)) (λ y. a.1 (inr (f.1 y))) x),
)
