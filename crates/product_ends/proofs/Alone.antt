-- products of sets with one number each
use Rattle.std.proofs.Common.{◌≡◌, ◌↔◌, ⊎_elim, ℕ, suc, ◌+◌, ◌<◌, List, [], ◌∷◌, ◌++◌, length, length-append, get_or, refl, sym, ap, ◌∙◌, subst, arith, add-one}
use Rattle.std.proofs.lemmas.Bool.{cases_eq}
use Rattle.std.proofs.lemmas.List.{get_or_append_left}
use Rattle.std.proofs.lemmas.Option.{get_or_from_slice_get}
use Rattle.interner.proofs.Lists.{get_last}
use Rattle.products.specs.Products.{AreIn, IsIn}
use Rattle.product_ends.specs.Transitions.{IsAlone}

-- the sets have the numbers of the row before this place, each alone
abbrev pub AreAlone : List ℕ → List ℕ → ℕ → Type 0
AreAlone sets row place =
    (length sets + 1 ≡ place) × ((k : ℕ) → k < length sets → IsAlone (get_or sets k 0) (get_or row (k + 1) 0))

pub alone_more : (sets row : List ℕ) (place set : ℕ) → AreAlone sets row place → IsAlone set (get_or row place 0) → AreAlone (sets ++ set ∷ []) row (place + 1)
alone_more sets row place set are is =
    let long = length-append sets (set ∷ []) in
    let so_far = are.0 in (
      omega (arith, long, so_far),
      λ k lt.
          ⊎_elim
          (λ here.
          let at : place ≡ k + 1 = omega (arith, so_far, here) in
          let last : get_or (sets ++ set ∷ []) k 0 ≡ set = ap (λ n. get_or (sets ++ set ∷ []) n 0) here ∙ get_or_from_slice_get (sets ++ set ∷ []) (length sets) set 0 (get_last sets set) in
          subst (λ s. IsAlone s (get_or row (k + 1) 0)) (sym last) (subst (λ n. IsAlone set (get_or row n 0)) at is))
          (λ ne.
          let less : k < length sets = omega (arith, lt, long, ne) in
          subst (λ s. IsAlone s (get_or row (k + 1) 0)) (sym (get_or_append_left sets (set ∷ []) 0 k less)) (are.1 k less))
          (cases_eq k (length sets)),
    )

heads : (a b : ℕ) (xs ys : List ℕ) → a ≡ b → xs ≡ ys → a ∷ xs ≡ b ∷ ys
heads a b xs ys e f = cc

first : (a b : ℕ) (xs ys : List ℕ) → a ∷ xs ≡ b ∷ ys → a ≡ b
first a b xs ys e = cc

rest : (a b : ℕ) (xs ys : List ℕ) → a ∷ xs ≡ b ∷ ys → xs ≡ ys
rest a b xs ys e = cc

-- their one row
pub alone_in : (sets numbers : List ℕ) → length sets ≡ length numbers → ((k : ℕ) → k < length sets → IsAlone (get_or sets k 0) (get_or numbers k 0)) → (other : List ℕ) → AreIn sets other ↔ (other ≡ numbers)
alone_in [] [] long each [] = ((λ h. refl), (λ e. tt))
alone_in [] [] long each (n ∷ other) = ((λ h. absurd h), (λ e. absurd (let l = ap length e in omega (arith, l))))
alone_in [] (m ∷ numbers) long each other = absurd (omega (arith, long))
alone_in (set ∷ sets) [] long each other = absurd (omega (arith, long))
alone_in (set ∷ sets) (m ∷ numbers) long each [] = ((λ h. absurd h), (λ e. absurd (let l = ap length e in omega (arith, l))))
alone_in (set ∷ sets) (m ∷ numbers) long each (n ∷ other) =
    let first_one = each 0 (omega arith) n in
    let others = alone_in sets numbers (omega (arith, long)) (λ k lt. each (suc k) (omega (arith, lt))) other in (
      (λ h. heads n m other numbers (first_one.0 h.0) (others.0 h.1)),
      (λ e. (first_one.1 (first n m other numbers e), others.1 (rest n m other numbers e))),
    )

pub row_alone : (sets row : List ℕ) → 0 < length row → AreAlone sets row (length row) → (other : List ℕ) → IsIn (get_or row 0 0, sets) other ↔ (other ≡ row)
row_alone sets [] some are other = absurd (omega (arith, some))
row_alone sets (number ∷ numbers) some are [] = ((λ h. absurd h), (λ e. absurd (let l = ap length e in omega (arith, l))))
row_alone sets (number ∷ numbers) some are (n ∷ other) =
    let long = are.0 in
    let others = alone_in sets numbers (omega (arith, long)) (λ k lt. subst (λ j. IsAlone (get_or sets k 0) (get_or (number ∷ numbers) j 0)) (add-one k) (are.1 k lt)) other in (
      (λ h. heads n number other numbers h.0 (others.0 h.1)),
      (λ e. (first n number other numbers e, others.1 (rest n number other numbers e))),
    )
