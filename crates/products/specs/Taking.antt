-- Invariant: the rest of rows that have one number at a place
use Rattle.std.specs.Prelude.{◌≡◌, ℕ, Bool, false, true, List, Some, get_or, slice_get}
use Rattle.std.specs.List.{remove}
use Rattle.products.specs.Products.{Has, IsInOne, Product}

-- the row is what is left of a row that has this number at this place, without that number
abbrev pub IsLeftOf : List Product → ℕ → ℕ → List ℕ → Type 0
IsLeftOf products place number left =
    (row : List ℕ) × IsInOne products row × (slice_get row place ≡ Some number) × (remove row place ≡ left)

-- this number is marked, and no other one that a set of the products has at this place
pub record IsOneMarked (products : List Product) (place : ℕ) (marks : List Bool) (number : ℕ) : Type 0 where
  pub marked : get_or marks number false ≡ true
  pub only : (at n : ℕ) (product : Product) → slice_get products at ≡ Some product → Has (get_or product.1 place 0) n
      → get_or marks n false ≡ true → n ≡ number
