-- where rows stand
use Rattle.std.proofs.Common.{◌≡◌, ℕ, suc, Bool, true, false, cond, if◌then◌else◌, nat_eq, Option, Some, None, option_map, List, [], ◌∷◌, ◌++◌, map, length, slice_get, slice_set, refl, sym, ap, ◌∙◌, ⊎_elim, true≢false}
use Rattle.std.specs.List.{AllZip}
use Rattle.std.specs.Map.{lookup}
use Rattle.std.proofs.lemmas.Bool.{cases_eq, eq-eqb, ne_eqb}
use Rattle.std.proofs.lemmas.Option.{same_Some}
use Rattle.indexmap.specs.IndexMap.{insert_entry}
use Rattle.test_store.specs.Places.{place_of}

same : (a b : ℕ) → nat_eq a b ≡ true → a ≡ b
same a b t = ⊎_elim (λ s. s) (λ d. (let q : true ≡ false = sym t ∙ ne_eqb a b d in cc)) (cases_eq a b)

no_place : (n : ℕ) → Some n ≡ None → ⊥
no_place n e = cc

swapped_test : (a b : ℕ) → nat_eq a b ≡ nat_eq b a
swapped_test a b = ⊎_elim (λ e. eq-eqb a b e ∙ sym (eq-eqb b a (sym e))) (λ d. ne_eqb a b d ∙ sym (ne_eqb b a (λ e. d (sym e)))) (cases_eq a b)

swapped : (b d : Bool) → (b ≡ true → d ≡ true → ⊥) → (n : ℕ) (r : Option ℕ) → cond b (Some 0) (option_map suc (cond d (Some n) r)) ≡ cond d (Some (suc n)) (cond b (Some 0) (option_map suc r))
swapped true true apart n r = absurd (apart refl refl)
swapped true false apart n r = refl
swapped false true apart n r = refl
swapped false false apart n r = refl

-- the entries of a clone are the same
pub cloned : (es fs : List (ℕ × ℕ)) → AllZip (λ p q. (q.0 ≡ p.0) × (q.1 ≡ p.1)) es fs → fs ≡ es
cloned [] [] h = refl
cloned [] (f ∷ fs) h = absurd h
cloned (e ∷ es) [] h = absurd h
cloned (e ∷ es) (f ∷ fs) h = λ i. (h.0.0 i, h.0.1 i) ∷ cloned es fs h.1 i

module _ {X : Type 0} where
  -- the place of a key in one row and others
  at_row : (x : ℕ × X) (rows : List (ℕ × X)) (key : ℕ) (b : Bool) → nat_eq key x.0 ≡ b → place_of key (x ∷ rows) ≡ cond b (Some 0) (option_map suc (place_of key rows))
  at_row x rows key b is = ap (λ b. cond b (Some 0) (option_map suc (place_of key rows))) is

  -- a place is that of a row with the key, which is the one that a look-up finds
  pub found : (rows : List (ℕ × X)) (key i : ℕ) → place_of key rows ≡ Some i → (x : ℕ × X) × (slice_get rows i ≡ Some x) × (lookup (nat_eq key) rows ≡ Some x.1)
  found [] key i e = cc
  found (x ∷ rows) key i e = by (nat_eq key x.0) refl (place_of key rows) refl (found rows key)
    where
      by : (b : Bool) → nat_eq key x.0 ≡ b → (r : Option ℕ) → place_of key rows ≡ r → ((j : ℕ) → place_of key rows ≡ Some j → (y : ℕ × X) × (slice_get rows j ≡ Some y) × (lookup (nat_eq key) rows ≡ Some y.1))
          → (y : ℕ × X) × (slice_get (x ∷ rows) i ≡ Some y) × (lookup (nat_eq key) (x ∷ rows) ≡ Some y.1)
      by true is r at rec =
          (x, ap (slice_get (x ∷ rows)) (sym (same_Some 0 i (sym (at_row x rows key true is) ∙ e))), ap (λ b. cond b (Some x.1) (lookup (nat_eq key) rows)) is)
      by false is None at rec = (let q : None ≡ Some i = sym (ap (option_map suc) at) ∙ sym (at_row x rows key false is) ∙ e in cc)
      by false is (Some j) at rec =
          let here = rec j at in
          (here.0, ap (slice_get (x ∷ rows)) (sym (same_Some (suc j) i (sym (ap (option_map suc) at) ∙ sym (at_row x rows key false is) ∙ e))) ∙ here.1, ap (λ b. cond b (Some x.1) (lookup (nat_eq key) rows)) is ∙ here.2)

  pub absent : (rows : List (ℕ × X)) (key : ℕ) → place_of key rows ≡ None → lookup (nat_eq key) rows ≡ None
  absent [] key e = refl
  absent (x ∷ rows) key e = by (nat_eq key x.0) refl (place_of key rows) refl (absent rows key)
    where
      by : (b : Bool) → nat_eq key x.0 ≡ b → (r : Option ℕ) → place_of key rows ≡ r → (place_of key rows ≡ None → lookup (nat_eq key) rows ≡ None) → lookup (nat_eq key) (x ∷ rows) ≡ None
      by true is r at rec = absurd (no_place 0 (sym (at_row x rows key true is) ∙ e))
      by false is None at rec = ap (λ b. cond b (Some x.1) (lookup (nat_eq key) rows)) is ∙ rec at
      by false is (Some j) at rec = absurd (no_place (suc j) (sym (ap (option_map suc) at) ∙ sym (at_row x rows key false is) ∙ e))

  -- a row that is put in the place of the one before
  pub put_at : (rows : List (ℕ × X)) (key i : ℕ) (row : X) → place_of key rows ≡ Some i → insert_entry nat_eq rows key row ≡ slice_set rows i (key, row)
  put_at [] key i row e = cc
  put_at (x ∷ rows) key i row e = by (nat_eq key x.0) refl (place_of key rows) refl (λ j. put_at rows key j row)
    where
      by : (b : Bool) → nat_eq key x.0 ≡ b → (r : Option ℕ) → place_of key rows ≡ r → ((j : ℕ) → place_of key rows ≡ Some j → insert_entry nat_eq rows key row ≡ slice_set rows j (key, row))
          → insert_entry nat_eq (x ∷ rows) key row ≡ slice_set (x ∷ rows) i (key, row)
      by true is r at rec =
          ap (λ (b : Bool). if b then (x.0, row) ∷ rows else x ∷ insert_entry nat_eq rows key row) is
          ∙ ap (λ k. (k, row) ∷ rows) (sym (same key x.0 is))
          ∙ ap (λ j. slice_set (x ∷ rows) j (key, row)) (same_Some 0 i (sym (at_row x rows key true is) ∙ e))
      by false is None at rec = (let q : None ≡ Some i = sym (ap (option_map suc) at) ∙ sym (at_row x rows key false is) ∙ e in cc)
      by false is (Some j) at rec =
          ap (λ (b : Bool). if b then (x.0, row) ∷ rows else x ∷ insert_entry nat_eq rows key row) is
          ∙ ap (λ l. x ∷ l) (rec j at)
          ∙ ap (λ j. slice_set (x ∷ rows) j (key, row)) (same_Some (suc j) i (sym (ap (option_map suc) at) ∙ sym (at_row x rows key false is) ∙ e))

  -- then each key stands where it stood
  pub places_kept : (rows : List (ℕ × X)) (key i : ℕ) (row : X) (k : ℕ) → place_of key rows ≡ Some i → place_of k (slice_set rows i (key, row)) ≡ place_of k rows
  places_kept [] key i row k e = cc
  places_kept (x ∷ rows) key i row k e = by (nat_eq key x.0) refl (place_of key rows) refl (λ j. places_kept rows key j row k)
    where
      by : (b : Bool) → nat_eq key x.0 ≡ b → (r : Option ℕ) → place_of key rows ≡ r → ((j : ℕ) → place_of key rows ≡ Some j → place_of k (slice_set rows j (key, row)) ≡ place_of k rows)
          → place_of k (slice_set (x ∷ rows) i (key, row)) ≡ place_of k (x ∷ rows)
      by true is r at rec =
          ap (λ j. place_of k (slice_set (x ∷ rows) j (key, row))) (sym (same_Some 0 i (sym (at_row x rows key true is) ∙ e)))
          ∙ ap (λ n. cond (nat_eq k n) (Some 0) (option_map suc (place_of k rows))) (same key x.0 is)
      by false is None at rec = (let q : None ≡ Some i = sym (ap (option_map suc) at) ∙ sym (at_row x rows key false is) ∙ e in cc)
      by false is (Some j) at rec =
          ap (λ j. place_of k (slice_set (x ∷ rows) j (key, row))) (sym (same_Some (suc j) i (sym (ap (option_map suc) at) ∙ sym (at_row x rows key false is) ∙ e)))
          ∙ ap (λ r. cond (nat_eq k x.0) (Some 0) (option_map suc r)) (rec j at)

  -- the row of a key that has none is put behind the others
  pub put_behind : (rows : List (ℕ × X)) (key : ℕ) (row : X) → place_of key rows ≡ None → insert_entry nat_eq rows key row ≡ rows ++ (key, row) ∷ []
  put_behind [] key row e = refl
  put_behind (x ∷ rows) key row e = by (nat_eq key x.0) refl (place_of key rows) refl (put_behind rows key row)
    where
      by : (b : Bool) → nat_eq key x.0 ≡ b → (r : Option ℕ) → place_of key rows ≡ r → (place_of key rows ≡ None → insert_entry nat_eq rows key row ≡ rows ++ (key, row) ∷ [])
          → insert_entry nat_eq (x ∷ rows) key row ≡ (x ∷ rows) ++ (key, row) ∷ []
      by true is r at rec = absurd (no_place 0 (sym (at_row x rows key true is) ∙ e))
      by false is None at rec = ap (λ (b : Bool). if b then (x.0, row) ∷ rows else x ∷ insert_entry nat_eq rows key row) is ∙ ap (λ l. x ∷ l) (rec at)
      by false is (Some j) at rec = absurd (no_place (suc j) (sym (ap (option_map suc) at) ∙ sym (at_row x rows key false is) ∙ e))

  -- then it stands there, and each other key where it stood
  pub one_place : (rows : List (ℕ × X)) (key : ℕ) (row : X) (k : ℕ) → place_of key rows ≡ None → place_of k (rows ++ (key, row) ∷ []) ≡ cond (nat_eq key k) (Some (length rows)) (place_of k rows)
  one_place [] key row k e = ap (λ b. cond b (Some 0) None) (swapped_test k key)
  one_place (x ∷ rows) key row k e = by (nat_eq key x.0) refl (place_of key rows) refl (one_place rows key row k)
    where
      by : (b : Bool) → nat_eq key x.0 ≡ b → (r : Option ℕ) → place_of key rows ≡ r → (place_of key rows ≡ None → place_of k (rows ++ (key, row) ∷ []) ≡ cond (nat_eq key k) (Some (length rows)) (place_of k rows))
          → place_of k ((x ∷ rows) ++ (key, row) ∷ []) ≡ cond (nat_eq key k) (Some (length (x ∷ rows))) (place_of k (x ∷ rows))
      by true is r at rec = absurd (no_place 0 (sym (at_row x rows key true is) ∙ e))
      by false is (Some j) at rec = absurd (no_place (suc j) (sym (ap (option_map suc) at) ∙ sym (at_row x rows key false is) ∙ e))
      by false is None at rec =
          ap (λ r. cond (nat_eq k x.0) (Some 0) (option_map suc r)) (rec at)
          ∙ swapped (nat_eq k x.0) (nat_eq key k) (λ p q. true≢false (sym (eq-eqb key x.0 (same key k q ∙ same k x.0 p)) ∙ is)) (length rows) (place_of k rows)

  -- rows with the same keys have the same places
  pub places_mapped : (f : ℕ × X → ℕ × X) → ((x : ℕ × X) → (f x).0 ≡ x.0) → (rows : List (ℕ × X)) (k : ℕ) → place_of k (map f rows) ≡ place_of k rows
  places_mapped f is [] k = refl
  places_mapped f is (x ∷ rows) k = λ i. cond (nat_eq k (is x i)) (Some 0) (option_map suc (places_mapped f is rows k i))
