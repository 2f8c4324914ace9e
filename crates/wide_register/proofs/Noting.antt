-- a value stood at a gap, too
use Rattle.std.proofs.Common.{◌≡◌, ◌≢◌, ◌↔◌, ℕ, ◌<◌, ℤ, ◌⊎◌, inl, inr, ⊎_elim, Option, Some, List, ◌∷◌, ◌++◌, length, get_or, set, take, drop, refl, sym, ap, ◌∙◌, arith, get_or-set_same, get_or-set_other}
use Rattle.std.specs.List.{Contains}
use Rattle.std.proofs.lemmas.Bool.{cases_eq}
use Rattle.std.proofs.lemmas.List.{length-set, get_or_default}
use Rattle.wide_register.specs.declared.row.Passed.{Passed}
use Rattle.wide_register.specs.Facts.{StoodAfter}
use Rattle.wide_register.proofs.Inserting.{insert_has}

some_same : (v u : ℤ) → Some v ≡ Some u → v ≡ u
some_same v u e = cc

abbrev pub Noted : List Passed → List Passed → ℤ → ℕ → Type 0
Noted old new value gap = (v : ℤ) (t : ℕ) → StoodAfter new v t ↔ (StoodAfter old v t ⊎ ((value ≡ v) × (t < gap)))

pub noted_if_any : (old new : List Passed) (o : Option ℤ) (value : ℤ) (gap : ℕ) → o ≡ Some value → Noted old new value gap
    → (v : ℤ) (t : ℕ) → StoodAfter new v t ↔ (StoodAfter old v t ⊎ ((o ≡ Some v) × (t < gap)))
noted_if_any old new o value gap e n v t = (
  (λ h. ⊎_elim inl (λ k. inr (e ∙ ap Some k.0, k.1)) ((n v t).0 h)),
  (λ h. (n v t).1 (⊎_elim inl (λ k. inr (some_same value v (sym e ∙ k.0), k.1)) h)),
)

pub noted_by : (old new : List Passed) (p : Passed) → ((q : Passed) → Contains new q ↔ (Contains old q ⊎ (p ≡ q))) → Noted old new p.value p.gap
noted_by old new p has v t = (
  (λ h. ⊎_elim
      (λ k. inl (h.0, k, h.2, h.3))
      (λ e. inr (ap (λ (q : Passed). q.value) e ∙ h.2, (let g : p.gap ≡ h.0.gap = ap (λ (q : Passed). q.gap) e in let l = h.3 in omega arith)))
      ((has h.0).0 h.1)),
  (λ h. ⊎_elim
      (λ k. (k.0, (has k.0).1 (inl k.1), k.2, k.3))
      (λ k. (p, (has p).1 (inr refl), k.0, k.1))
      h),
)

pub noted_there : (xs : List Passed) (i gap : ℕ) (value : ℤ) → Noted xs (take i xs ++ record { value = value; gap = gap } ∷ drop i xs) value gap
noted_there xs i gap value = noted_by xs (take i xs ++ record { value = value; gap = gap } ∷ drop i xs) (record { value = value; gap = gap }) (λ q. insert_has xs i (record { value = value; gap = gap }) q)

module _ (xs : List Passed) (i gap : ℕ) (p : Passed) (less : i < length xs) (here : p ≡ get_or xs i p) where
  abbrev raised : Passed
  raised = record { value = p.value; gap = gap }

  abbrev pub new : List Passed
  new = set xs i raised

  there : Contains new raised
  there = (i, (let e = length-set xs i raised in omega arith), get_or-set_same xs i raised raised less)

  was : (q : Passed) → Contains new q → Contains xs q ⊎ (raised ≡ q)
  was q h = by (cases_eq h.0 i)
    where
      by : (h.0 ≡ i) ⊎ (h.0 ≢ i) → Contains xs q ⊎ (raised ≡ q)
      by c = ⊎_elim
          (λ e. inr (sym (get_or-set_same xs i raised q less) ∙ ap (λ k. get_or new k q) (sym e) ∙ h.2))
          (λ n. inl (h.0, (let e = length-set xs i raised in let l = h.1 in omega arith), sym (get_or-set_other xs i h.0 raised q n) ∙ h.2))
          c

  stays : (q : Passed) → Contains xs q → Contains new q ⊎ (p ≡ q)
  stays q h = by (cases_eq h.0 i)
    where
      by : (h.0 ≡ i) ⊎ (h.0 ≢ i) → Contains new q ⊎ (p ≡ q)
      by c = ⊎_elim
          (λ e. inr (at_once (sym (ap (λ k. get_or xs k q) (sym e) ∙ h.2))))
          (λ n. inl (h.0, (let e = length-set xs i raised in let l = h.1 in omega arith), get_or-set_other xs i h.0 raised q n ∙ h.2))
          c
        where
          at_once : q ≡ get_or xs i q → p ≡ q
          at_once e = here ∙ get_or_default xs i p q less ∙ sym e

  pub noted_later : p.gap < gap → Noted xs new p.value gap
  noted_later g v t = (
    (λ h. ⊎_elim
        (λ k. inl (h.0, k, h.2, h.3))
        (λ e. inr (ap (λ (q : Passed). q.value) e ∙ h.2, (let s : gap ≡ h.0.gap = ap (λ (q : Passed). q.gap) e in let l = h.3 in omega arith)))
        (was h.0 h.1)),
    (λ h. ⊎_elim
        (λ k. ⊎_elim
        (λ j. (k.0, j, k.2, k.3))
        (λ e. (raised, there, ap (λ (q : Passed). q.value) e ∙ k.2, (let s : p.gap ≡ k.0.gap = ap (λ (q : Passed). q.gap) e in let l = k.3 in omega arith)))
        (stays k.0 k.1))
        (λ k. (raised, there, k.0, k.1))
        h),
  )
