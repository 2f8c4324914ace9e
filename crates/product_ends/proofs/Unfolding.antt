-- the rows of products, unfolded place by place
use Rattle.std.proofs.Common.{◌≡◌, ◌↔◌, ◌⊎◌, inl, inr, ⊎_elim, ◌+◌, ◌-◌, ◌^◌, ◌<◌, ◌≤◌, ℕ, zero, suc, Some, List, [], ◌∷◌, ◌++◌, drop, length, slice_get, get_or, refl, sym, ap, ◌∙◌, subst, arith, append_assoc, append-nil}
use Rattle.std.specs.List.{Contains}
use Rattle.std.proofs.lemmas.Bool.{cases_eq}
use Rattle.std.proofs.lemmas.Option.{same_Some, slice_get_within}
use Rattle.std.proofs.lemmas.List.Elements.{Contains-push_cases, Contains-append_left, Contains-append_right}
use Rattle.words.specs.Puts.{IsPut}
use Rattle.rows.proofs.Elements.{Contains-head, Contains-nil}
use Rattle.products.specs.Products.{AreIn, Has, IsIn, IsInAt, IsInOne, Product}
use Rattle.products.proofs.Numbers.{by_bits, has_alone}
use Rattle.product_ends.specs.Conversion.{GoesOn, HasMore}
use Rattle.product_ends.specs.Transitions.{IsAlone}

-- a row is put
pub put_more : (row : List ℕ) (old new : List (List ℕ)) → IsPut row old new → (P : List ℕ → Type 0) → ((other : List ℕ) → P other ↔ (row ≡ other)) → HasMore P old new
put_more row old new put P is other = (
  (λ h.
      ⊎_elim
      (λ p. inl (subst (λ l. Contains l other) p.1 h))
      (λ p. ⊎_elim inl (λ e. inr ((is other).1 e)) (Contains-push_cases old row other (subst (λ l. Contains l other) p.1 h)))
      put),
  (λ h.
      ⊎_elim
      (λ p. subst (λ l. Contains l other) (sym p.1) (⊎_elim (λ k. k) (λ q. subst (Contains old) ((is other).0 q) p.0) h))
      (λ p.
      subst (λ l. Contains l other) (sym p.1)
      (⊎_elim (Contains-append_left old (row ∷ []) other) (λ q. Contains-append_right old (row ∷ []) other (subst (Contains (row ∷ [])) ((is other).0 q) (Contains-head row []))) h))
      put),
)

-- the same for equal rows
pub more_same : (P Q : List ℕ → Type 0) (old new : List (List ℕ)) → ((row : List ℕ) → P row ↔ Q row) → HasMore P old new → HasMore Q old new
more_same P Q old new same has row =
    ((λ h. ⊎_elim inl (λ p. inr ((same row).0 p)) ((has row).0 h)), (λ h. (has row).1 (⊎_elim inl (λ q. inr ((same row).1 q)) h)))

-- nothing is left of the sets
pub goes_nowhere : (sets : List ℕ) (place : ℕ) (front : List ℕ) → length sets ≤ place → (row : List ℕ) → GoesOn sets place front row ↔ (front ≡ row)
goes_nowhere sets place front none row = (
  (λ g. sym (append-nil front) ∙ ap (λ rest. front ++ rest) (sym (nothing g.0 (subst (λ l. AreIn l g.0) (over place sets none) g.1))) ∙ g.2),
  (λ e. ([], subst (λ l. AreIn l []) (sym (over place sets none)) tt, append-nil front ∙ e)),
)
  where
    over : (n : ℕ) (xs : List ℕ) → length xs ≤ n → drop n xs ≡ []
    over zero [] le = refl
    over zero (x ∷ xs) le = absurd (omega (arith, le))
    over (suc n) [] le = refl
    over (suc n) (x ∷ xs) le = over n xs (omega (arith, le))

    nothing : (rest : List ℕ) → AreIn [] rest → rest ≡ []
    nothing [] h = refl
    nothing (n ∷ rest) h = absurd h

-- a number of the set at this place, and on from there
abbrev pub GoesBy : List ℕ → ℕ → List ℕ → ℕ → List ℕ → Type 0
GoesBy sets place front number row = GoesOn sets (place + 1) (front ++ number ∷ []) row

sets_from : (sets : List ℕ) (place : ℕ) → place < length sets → drop place sets ≡ get_or sets place 0 ∷ drop (place + 1) sets
sets_from [] place lt = absurd (omega (arith, lt))
sets_from (s ∷ sets) zero lt = refl
sets_from (s ∷ sets) (suc place) lt =
    sets_from sets place (omega (arith, lt)) ∙ ap (λ n. get_or sets place 0 ∷ drop n (s ∷ sets)) (let e : suc (place + 1) ≡ suc place + 1 = omega arith in e)

goes_by : (sets : List ℕ) (place : ℕ) (front row : List ℕ) → place < length sets → GoesOn sets place front row → (number : ℕ) × Has (get_or sets place 0) number × GoesBy sets place front number row
goes_by sets place front row lt g = from g.0 (subst (λ l. AreIn l g.0) (sets_from sets place lt) g.1) g.2
  where
    from : (rest : List ℕ) → AreIn (get_or sets place 0 ∷ drop (place + 1) sets) rest → front ++ rest ≡ row → (number : ℕ) × Has (get_or sets place 0) number × GoesBy sets place front number row
    from [] are e = absurd are
    from (n ∷ rest) are e = (n, are.0, (rest, are.1, append_assoc front (n ∷ []) rest ∙ e))

by_goes : (sets : List ℕ) (place : ℕ) (front row : List ℕ) (number : ℕ) → place < length sets → Has (get_or sets place 0) number → GoesBy sets place front number row → GoesOn sets place front row
by_goes sets place front row number lt has g = (
  number ∷ g.0,
  subst (λ l. AreIn l (number ∷ g.0)) (sym (sets_from sets place lt)) (has, g.1),
  sym (append_assoc front (number ∷ []) g.0) ∙ g.2,
)

-- where the set has one number alone
pub goes_alone : (sets : List ℕ) (place : ℕ) (front : List ℕ) (number : ℕ) → place < length sets → IsAlone (get_or sets place 0) number → (row : List ℕ) → GoesBy sets place front number row ↔ GoesOn sets place front row
goes_alone sets place front number lt alone row = (
  by_goes sets place front row number lt ((alone number).1 refl),
  (λ g. let b = goes_by sets place front row lt g in subst (λ n. GoesBy sets place front n row) ((alone b.0).0 b.1) b.2),
)

-- the rows that go on by one of the numbers below this one
abbrev pub GoesBelow : List ℕ → ℕ → List ℕ → ℕ → List ℕ → Type 0
GoesBelow sets place front n row =
    (number : ℕ) × (number < n) × Has (get_or sets place 0) number × GoesBy sets place front number row

-- one number more
module _ (sets : List ℕ) (place : ℕ) (front : List ℕ) (n : ℕ) (old mid : List (List ℕ)) (so_far : HasMore (GoesBelow sets place front n) old mid) where
  last_or : (row : List ℕ) → GoesBelow sets place front (n + 1) row → GoesBelow sets place front n row ⊎ (Has (get_or sets place 0) n × GoesBy sets place front n row)
  last_or row g =
      ⊎_elim
      (λ e. inr (subst (λ k. Has (get_or sets place 0) k × GoesBy sets place front k row) e (g.2, g.3)))
      (λ ne. inl (let lt = g.1 in (g.0, omega (arith, lt, ne), g.2, g.3)))
      (cases_eq g.0 n)

  still : (row : List ℕ) → GoesBelow sets place front n row → GoesBelow sets place front (n + 1) row
  still row g = let lt = g.1 in (g.0, omega (arith, lt), g.2, g.3)

  pub below_more : (new : List (List ℕ)) → Has (get_or sets place 0) n → HasMore (GoesBy sets place front n) mid new → HasMore (GoesBelow sets place front (n + 1)) old new
  below_more new has more row = (
    (λ h. ⊎_elim (λ k. ⊎_elim inl (λ g. inr (still row g)) ((so_far row).0 k)) (λ g. inr (n, omega arith, has, g)) ((more row).0 h)),
    (λ h.
        ⊎_elim
        (λ k. (more row).1 (inl ((so_far row).1 (inl k))))
        (λ g. ⊎_elim (λ b. (more row).1 (inl ((so_far row).1 (inr b)))) (λ q. (more row).1 (inr q.1)) (last_or row g))
        h),
  )

  pub below_skip : ¬ Has (get_or sets place 0) n → HasMore (GoesBelow sets place front (n + 1)) old mid
  below_skip none row = (
    (λ h. ⊎_elim inl (λ g. inr (still row g)) ((so_far row).0 h)),
    (λ h. (so_far row).1 (⊎_elim inl (λ g. ⊎_elim inr (λ q. absurd (none q.0)) (last_or row g)) h)),
  )

-- all numbers
pub below_all : (sets : List ℕ) (place : ℕ) (front : List ℕ) (n : ℕ) → place < length sets → ((number : ℕ) → Has (get_or sets place 0) number → number < n) → (row : List ℕ) → GoesBelow sets place front n row ↔ GoesOn sets place front row
below_all sets place front n lt few row = (
  (λ g. by_goes sets place front row g.0 lt g.2 g.3),
  (λ g. let b = goes_by sets place front row lt g in (b.0, few b.0 b.1, b.1, b.2)),
)

-- the rows of the products before this place
abbrev pub AreUnfolded : List Product → ℕ → List (List ℕ) → Type 0
AreUnfolded products n rows = (row : List ℕ) → Contains rows row ↔ ((at : ℕ) × (at < n) × IsInAt products at row)

pub unfolded_none : (products : List Product) (rows : List (List ℕ)) → rows ≡ [] → AreUnfolded products 0 rows
unfolded_none products rows none row =
    ((λ h. absurd (Contains-nil row (subst (λ l. Contains l row) none h))), (λ g. absurd (let lt = g.1 in omega (arith, lt))))

in_first : (first : ℕ) (sets row : List ℕ) → GoesOn sets 0 (first ∷ []) row ↔ IsIn (first, sets) row
in_first first sets row = (to row, from row)
  where
    to : (row : List ℕ) → GoesOn sets 0 (first ∷ []) row → IsIn (first, sets) row
    to row g = subst (IsIn (first, sets)) g.2 (refl, g.1)

    from : (row : List ℕ) → IsIn (first, sets) row → GoesOn sets 0 (first ∷ []) row
    from [] is = absurd is
    from (n ∷ rest) is = (rest, is.1, ap (λ m. m ∷ rest) (sym is.0))

pub unfolded_more : (products : List Product) (n first : ℕ) (sets : List ℕ) (old new : List (List ℕ)) → slice_get products n ≡ Some (first, sets) → HasMore (GoesOn sets 0 (first ∷ [])) old new → AreUnfolded products n old → AreUnfolded products (n + 1) new
unfolded_more products n first sets old new here more so_far row = (
  (λ h.
      ⊎_elim
      (λ k. let b = (so_far row).0 k in let lt = b.1 in (b.0, omega (arith, lt), b.2))
      (λ g. (n, omega arith, ((first, sets), here, (in_first first sets row).0 g)))
      ((more row).0 h)),
  (λ g.
      (more row).1
      (⊎_elim
      (λ e. inr ((in_first first sets row).1 (that (subst (λ k. IsInAt products k row) e g.2))))
      (λ ne. inl ((so_far row).1 (let lt = g.1 in (g.0, omega (arith, lt, ne), g.2))))
      (cases_eq g.0 n))),
)
  where
    that : IsInAt products n row → IsIn (first, sets) row
    that is = subst (λ p. IsIn p row) (same_Some is.0 (first, sets) (sym is.1 ∙ here)) is.2

pub unfolded_all : (products : List Product) (rows : List (List ℕ)) → AreUnfolded products (length products) rows → (row : List ℕ) → Contains rows row ↔ IsInOne products row
unfolded_all products rows all row = (
  (λ h. let a = (all row).0 h in (a.0, a.2)),
  (λ is. (all row).1 (is.0, slice_get_within products is.0 is.1.0 is.1.1, is.1)),
)

-- a word beyond the bits
pub alone_high : (set : ℕ) → 2 ^ 63 ≤ set → IsAlone set (set - 2 ^ 63)
alone_high set high n =
    ((λ h. let e = (has_alone set n high).0 h in omega (arith, e)), (λ e. (has_alone set n high).1 (omega (arith, e, high))))

-- a word of bits
pub few_bits : (set n : ℕ) → set < 2 ^ 63 → Has set n → n < 63
few_bits set n low has = ((by_bits set n low).0 has).0
