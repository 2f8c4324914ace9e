-- a row is put among others
use Rattle.std.proofs.Common.{◌≡◌, ℕ, Option, Some, None, MatchOption, ◌⊎◌, inl, inr, ⊎_elim, List, [], ◌∷◌, ◌++◌, refl, sym, subst}
use Rattle.std.specs.List.{Contains}
use Rattle.std.proofs.lemmas.List.Elements.{Contains-append_left, Contains-push, Contains-push_cases}
use Rattle.linspec.proofs.Lists.{Contains-nil, Contains-cons_cases, Pairwise-append}
use Rattle.wide_register.specs.declared.calls.Call.{Call}
use Rattle.wide_register.specs.declared.row.Row.{Row}
use Rattle.wide_register.specs.Facts.{AreApart, AreLeftOut, IsAtMostBy, IsKeptIn}
use Rattle.wide_register.proofs.AtMost.{at_most_itself, at_most_then}

-- nothing is taken of a list only if it is empty
pub none_left : (a b : ℕ) (P : Row → Type 0) (o : Option Row) → ((x : Row) → o ≡ Some x → ⊥) → MatchOption o ((a ≡ 0) × (b ≡ 0)) P → a ≡ 0
none_left a b P None n m = m.0
none_left a b P (Some x) n m = absurd (n x refl)

module _ (calls : List Call) where
  abbrev Apart : Row → Row → Type 0
  Apart a b = (¬ IsAtMostBy calls a b) × (¬ IsAtMostBy calls b a)

  -- kept rows stay kept if each row that is there does
  pub kept_still : (rows new : List Row) → ((r : Row) → Contains rows r → IsKeptIn calls new r) → (r : Row) → IsKeptIn calls rows r → IsKeptIn calls new r
  kept_still rows new to r k = let q = to k.0 k.1 in (q.0, q.1, at_most_then calls r k.0 q.0 k.2 q.2)

  pub kept_itself : (rows : List Row) (r : Row) → Contains rows r → IsKeptIn calls rows r
  kept_itself rows r h = (r, h, at_most_itself calls r)

  module _ (rows left : List Row) (row : Row) (out : AreLeftOut calls row rows left) where
    pub put_each : (r : Row) → Contains (left ++ row ∷ []) r → Contains rows r ⊎ (r ≡ row)
    put_each r h = ⊎_elim (λ k. inl (out.each r k).0) (λ e. inr (sym e)) (Contains-push_cases left row r h)

    pub put_kept : IsKeptIn calls (left ++ row ∷ []) row
    put_kept = kept_itself (left ++ row ∷ []) row (Contains-push left row)

    pub put_old : (r : Row) → Contains rows r → IsKeptIn calls (left ++ row ∷ []) r
    put_old r h = ⊎_elim
        (λ k. kept_itself (left ++ row ∷ []) r (Contains-append_left left (row ∷ []) r k))
        (λ m. (row, Contains-push left row, m))
        (out.others r h)

    pub put_apart : ¬ IsKeptIn calls rows row → AreApart calls rows → AreApart calls (left ++ row ∷ [])
    put_apart none apart = Pairwise-append Apart left (row ∷ []) (out.apart apart) ((λ y h. absurd (Contains-nil y h)), tt)
        (λ x y h k. ⊎_elim
        (λ e. subst (Apart x) e ((out.each x h).1, (λ m. none (x, (out.each x h).0, m))))
        (λ j. absurd (Contains-nil y j))
        (Contains-cons_cases row [] y k))

  -- of several rows one is put
  module _ (first more rows new rest : List Row) (row : Row) (cut : more ≡ rest ++ row ∷ []) (all : List Row) where
    pub rest_within : ((r : Row) → Contains more r → Contains all r) → (r : Row) → Contains rest r → Contains all r
    rest_within within r h = within r (subst (λ l. Contains l r) (sym cut) (Contains-append_left rest (row ∷ []) r h))

    pub each_of_all : ((r : Row) → Contains more r → Contains all r) → ((r : Row) → Contains rows r → Contains first r ⊎ Contains all r) → ((r : Row) → Contains new r → Contains rows r ⊎ (r ≡ row))
        → (r : Row) → Contains new r → Contains first r ⊎ Contains all r
    each_of_all within each put r h = ⊎_elim (each r)
        (λ e. inr (within r (subst (Contains more) (sym e) (subst (λ l. Contains l row) (sym cut) (Contains-push rest row)))))
        (put r h)

    pub kept_of_all : ((r : Row) → Contains all r → Contains more r ⊎ IsKeptIn calls rows r) → ((r : Row) → Contains rows r → IsKeptIn calls new r) → IsKeptIn calls new row
        → (r : Row) → Contains all r → Contains rest r ⊎ IsKeptIn calls new r
    kept_of_all kept old here r h = ⊎_elim
        (λ k. ⊎_elim inl (λ e. inr (subst (IsKeptIn calls new) e here)) (Contains-push_cases rest row r (subst (λ l. Contains l r) cut k)))
        (λ k. inr (kept_still rows new old r k))
        (kept r h)
