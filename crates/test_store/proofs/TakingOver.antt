-- The copies that the chosen replicas take over, one replica after another
use Rattle.std.proofs.Common.{◌≡◌, ℕ, zero, suc, ◌+◌, ◌<◌, Bool, true, false, cond, List, [], ◌∷◌, ◌++◌, drop, length, get_or, refl, sym, ap, ◌∙◌, append_assoc, arith, add-one, drop-cons}
use Rattle.std.proofs.lemmas.List.{append-nil}
use Rattle.kinds.specs.declared.any_state.AnyState.{AnyState}
use Rattle.test_store.specs.declared.held.Held.{Held}
use Rattle.test_store.specs.Copies.{taken_over}

-- the copy at a replica then
abbrev pub next_of : Bool → Held → Held → Held
next_of flag new old = cond flag new old

next_is : (chosen : List Bool) (new : Held) (row : List Held) (i : ℕ) (d : Held) → i < length row
    → taken_over (drop i chosen) new (drop i row) ≡ next_of (get_or chosen i false) new (get_or row i d) ∷ taken_over (drop (i + 1) chosen) new (drop (i + 1) row)
next_is chosen new row i d h = rw (add-one) (by_index chosen row i h)
  where
    by_index : (chosen : List Bool) (row : List Held) (i : ℕ) → i < length row → taken_over (drop i chosen) new (drop i row) ≡ next_of (get_or chosen i false) new (get_or row i d) ∷ taken_over (drop (suc i) chosen) new (drop (suc i) row)
    by_index chosen [] i h = absurd (omega arith)
    by_index [] (x ∷ row) zero h = refl
    by_index [] (x ∷ row) (suc i) h = rest row i (omega arith)
      where
        rest : (row : List Held) (i : ℕ) → i < length row → drop i row ≡ get_or row i d ∷ drop (suc i) row
        rest row i h = drop-cons row i d h
    by_index (flag ∷ chosen) (x ∷ row) zero h = refl
    by_index (flag ∷ chosen) (x ∷ row) (suc i) h = by_index chosen row i (omega arith)

pub goes_on : (chosen : List Bool) (new : Held) (row done done' : List Held) (i : ℕ) (d : Held) → i < length row
    → done ++ taken_over (drop i chosen) new (drop i row) ≡ taken_over chosen new row
    → done' ≡ done ++ next_of (get_or chosen i false) new (get_or row i d) ∷ []
    → done' ++ taken_over (drop (i + 1) chosen) new (drop (i + 1) row) ≡ taken_over chosen new row
goes_on chosen new row done done' i d h kept is =
    let rest = taken_over (drop (i + 1) chosen) new (drop (i + 1) row) in
    ap (λ l. l ++ rest) is
    ∙ append_assoc done (next_of (get_or chosen i false) new (get_or row i d) ∷ []) rest
    ∙ ap (λ l. done ++ l) (sym (next_is chosen new row i d h))
    ∙ kept

taken_over-nil : (chosen : List Bool) (new : Held) → taken_over chosen new [] ≡ []
taken_over-nil [] new = refl
taken_over-nil (flag ∷ chosen) new = refl

pub ends : (chosen : List Bool) (new : Held) (row done : List Held) (i : ℕ) → drop i row ≡ [] → done ++ taken_over (drop i chosen) new (drop i row) ≡ taken_over chosen new row → done ≡ taken_over chosen new row
ends chosen new row done i none kept =
    sym (append-nil done) ∙ ap (λ l. done ++ l) (sym (taken_over-nil (drop i chosen) new)) ∙ ap (λ l. done ++ taken_over (drop i chosen) new l) (sym none) ∙ kept

pub taken : (flag : Bool) (version : ℕ) (state other : AnyState) (next old : Held) → flag ≡ true → next ≡ record { version = version; state = other } → other ≡ state → next ≡ next_of flag (record { version = version; state = state }) old
taken flag version state other next old t is same =
    is ∙ ap (λ (s : AnyState). let held : Held = record { version = version; state = s } in held) same ∙ ap (λ b. next_of b (record { version = version; state = state }) old) (sym t)

pub left : (flag : Bool) (new next old : Held) → flag ≡ false → next ≡ old → next ≡ next_of flag new old
left flag new next old f is = is ∙ ap (λ b. next_of b new old) (sym f)
