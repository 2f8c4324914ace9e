-- the rows that products stand for, as a list
use Rattle.std.proofs.Common.{◌≡◌, ◌↔◌, ℕ, zero, suc, List, [], ◌∷◌, refl, sym, ap, subst, arith}
use Rattle.std.specs.List.{Contains}
use Rattle.rows.proofs.Elements.{to_map, from_map}
use Rattle.interner.specs.Numbers.{IsOnceIn}
use Rattle.interner.proofs.Lists.{clash, has_place, one_of, place_of}
use Rattle.products.specs.Products.{AreApart, IsIn, IsInOne, Product, rows_in, rows_of_product, rows_of_sets}
use Rattle.products.proofs.Lists.{Once, Pairwise, from_flat_map, once_flat_map, once_map, to_flat_map}
use Rattle.products.proofs.Sets.{contains_rows, rows_once}

-- of one product
from_product : (product : Product) (row : List ℕ) → Contains (rows_of_product product) row → IsIn product row
from_product product row h =
    let r = from_map (λ rest. product.0 ∷ rest) (rows_of_sets product.1) row h in
    subst (IsIn product) r.2 (refl, (contains_rows product.1 r.0).0 r.1)

to_product : (product : Product) (row : List ℕ) → IsIn product row → Contains (rows_of_product product) row
to_product product [] is = absurd is
to_product product (number ∷ numbers) is =
    subst (λ n. Contains (rows_of_product product) (n ∷ numbers)) (sym is.0)
    (to_map (λ rest. product.0 ∷ rest) (rows_of_sets product.1) numbers ((contains_rows product.1 numbers).1 is.1))

-- of all
from_products : (products : List Product) (row : List ℕ) → Contains (rows_in products) row → IsInOne products row
from_products products row h =
    let r = from_flat_map rows_of_product products row h in
    let p = place_of products r.0 r.1 in
    (p.0, (r.0, p.1, from_product r.0 row r.2))

to_products : (products : List Product) (row : List ℕ) → IsInOne products row → Contains (rows_in products) row
to_products products row is =
    to_flat_map rows_of_product products is.1.0 row (has_place products is.0 is.1.0 is.1.1) (to_product is.1.0 row is.1.2)

pub contains_rows_in : (products : List Product) (row : List ℕ) → Contains (rows_in products) row ↔ IsInOne products row
contains_rows_in products row = (from_products products row, to_products products row)

-- no element stands at two places
pub once_places : {X : Type 0} (xs : List X) → Once xs → IsOnceIn xs
once_places [] once i j x h k = absurd (clash x _ refl h)
once_places (y ∷ ys) once zero zero x h k = refl
once_places (y ∷ ys) once zero (suc j) x h k = absurd (once.0 x (has_place ys j x k) (one_of y x h))
once_places (y ∷ ys) once (suc i) zero x h k = absurd (once.0 x (has_place ys i x h) (one_of y x k))
once_places (y ∷ ys) once (suc i) (suc j) x h k = ap suc (once_places ys once.1 i j x h k)

rest_of : (n : ℕ) (row other : List ℕ) → n ∷ row ≡ n ∷ other → row ≡ other
rest_of n row other same = cc

apart_later : (products : List Product) → AreApart products
    → Pairwise (λ p q. (row : List ℕ) → Contains (rows_of_product p) row → Contains (rows_of_product q) row → ⊥) products
apart_later [] apart = tt
apart_later (product ∷ products) apart = (
  λ other h row a b.
      let p = place_of products other h in
      let same : 0 ≡ suc p.0 = apart 0 (suc p.0) row (product, refl, from_product product row a) (other, p.1, from_product other row b) in
      absurd (omega (arith, same)),
  apart_later products (λ i j row a b. let same : suc i ≡ suc j = apart (suc i) (suc j) row a b in omega (arith, same)),
)

-- no row is there twice
pub rows_in_once : (products : List Product) → AreApart products → IsOnceIn (rows_in products)
rows_in_once products apart =
    once_places (rows_in products)
    (once_flat_map rows_of_product products
    (λ product h. once_map (λ rest. product.0 ∷ rest) (rest_of product.0) (rows_of_sets product.1) (rows_once product.1))
    (apart_later products apart))
