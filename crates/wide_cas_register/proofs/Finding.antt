-- what a loop over the operations has found so far
use Rattle.std.proofs.Common.{◌≡◌, ◌↔◌, ℕ, ◌+◌, ◌<◌, ◌≤◌, ℤ, ◌⊎◌, inl, inr, ⊎_elim, List, [], ◌∷◌, ◌++◌, length, take, get_or, sym, ap, ◌∙◌, subst}
use Rattle.std.specs.List.{Contains}
use Rattle.std.proofs.lemmas.List.{take_all, take_more}
use Rattle.std.proofs.lemmas.List.Elements.{Contains-append_left, Contains-push, Contains-push_cases}
use Rattle.wide_cas_register.specs.declared.calls.Call.{Call}
use Rattle.wide_cas_register.specs.declared.calls.What.TheVariants.{Reads}
use Rattle.wide_cas_register.specs.declared.row.Found.{Found}
use Rattle.wide_cas_register.specs.Facts.{IsFoundBy}

module _ (calls : List Call) (gap : ℕ) (v : ℤ) (first : List Found) where
  abbrev pub HasSoFar : List Found → ℕ → Type 0
  HasSoFar found i = (f : Found) → Contains found f ↔ (Contains first f ⊎ IsFoundBy (take i calls) gap v f)

  pub all_so_far : (found : List Found) (i : ℕ) → length calls ≤ i → HasSoFar found i → (f : Found) → Contains found f ↔ (Contains first f ⊎ IsFoundBy calls gap v f)
  all_so_far found i h s = subst (λ l. (f : Found) → Contains found f ↔ (Contains first f ⊎ IsFoundBy l gap v f)) (take_all i calls h) s

  module _ (i : ℕ) (d : Call) (h : i < length calls) (old : List Found) (s : HasSoFar old i) where
    abbrev c : Call
    c = get_or calls i d

    more : take (i + 1) calls ≡ take i calls ++ c ∷ []
    more = take_more calls i d h

    wider : (f : Found) → IsFoundBy (take i calls) gap v f → IsFoundBy (take (i + 1) calls) gap v f
    wider f k = (k.0, (k.1.0, subst (λ l. Contains l k.1.0) (sym more) (Contains-append_left (take i calls) (c ∷ []) k.1.0 k.1.1), k.1.2, k.1.3, k.1.4))

    narrower : (f : Found) → IsFoundBy (take (i + 1) calls) gap v f → IsFoundBy (take i calls) gap v f ⊎ ((c.what ≡ Reads) × (c.since < gap) × (record { read = c.id; value = v } ≡ f))
    narrower f k = ⊎_elim
        (λ j. inl (k.0, (k.1.0, j, k.1.2, k.1.3, k.1.4)))
        (λ (e : c ≡ k.1.0). inr (
          subst (λ (x : Call). x.what ≡ Reads) (sym e) k.1.2,
          subst (λ (x : Call). x.since < gap) (sym e) k.1.3,
          ap (λ n. record { read = n; value = v }) (ap (λ (x : Call). x.id) e ∙ k.1.4) ∙ ap (λ w. record { read = f.read; value = w }) (sym k.0),
        ))
        (Contains-push_cases (take i calls) c k.1.0 (subst (λ l. Contains l k.1.0) more k.1.1))

    it : (f : Found) → (c.what ≡ Reads) × (c.since < gap) → record { read = c.id; value = v } ≡ f → IsFoundBy (take (i + 1) calls) gap v f
    it f m e = (
      sym (ap (λ (x : Found). x.value) e),
      (c, subst (λ l. Contains l c) (sym more) (Contains-push (take i calls) c), m.0, m.1, ap (λ (x : Found). x.read) e),
    )

    pub found_noted : (new : List Found) → (c.what ≡ Reads) × (c.since < gap) → ((f : Found) → Contains new f ↔ (Contains old f ⊎ (record { read = c.id; value = v } ≡ f))) → HasSoFar new (i + 1)
    found_noted new m n f = (
      (λ k. ⊎_elim
          (λ o. ⊎_elim (λ x. inl x) (λ x. inr (wider f x)) ((s f).0 o))
          (λ e. inr (it f m e))
          ((n f).0 k)),
      (λ k. (n f).1 (⊎_elim
          (λ x. inl ((s f).1 (inl x)))
          (λ x. ⊎_elim (λ y. inl ((s f).1 (inr y))) (λ y. inr y.2) (narrower f x))
          k)),
    )

    pub found_passed : ¬ ((c.what ≡ Reads) × (c.since < gap)) → HasSoFar old (i + 1)
    found_passed n f = (
      (λ k. ⊎_elim (λ x. inl x) (λ x. inr (wider f x)) ((s f).0 k)),
      (λ k. (s f).1 (⊎_elim (λ x. inl x) (λ x. ⊎_elim (λ y. inr y) (λ y. absurd (n (y.0, y.1))) (narrower f x)) k)),
    )
