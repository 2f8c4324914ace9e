-- products with a place more, in which each row has a zero
use Rattle.std.proofs.Common.{◌≡◌, ◌↔◌, ℕ, List, [], ◌∷◌, ◌++◌, map, refl, sym, ap, ◌∙◌}
use Rattle.std.specs.List.{Contains, flat_map}
use Rattle.linspec.proofs.Lists.{Contains-head, Contains-nil, Contains-tail}
use Rattle.products.specs.Products.{Product, numbers_of, rows_in, rows_of_product, rows_of_sets}
use Rattle.products.proofs.Lists.{Once}
use Rattle.products.proofs.Numbers.{contains_numbers, has_zero_alone, numbers_once}

abbrev longer : List ℕ → List ℕ
longer row = row ++ 0 ∷ []

zero_alone : (numbers : List ℕ) → Once numbers → ((n : ℕ) → Contains numbers n ↔ (n ≡ 0)) → numbers ≡ 0 ∷ []
zero_alone [] once are = absurd (Contains-nil 0 ((are 0).1 refl))
zero_alone (n ∷ []) once are = ap (λ m. m ∷ []) ((are n).0 (Contains-head n []))
zero_alone (n ∷ m ∷ numbers) once are =
    let first = (are n).0 (Contains-head n (m ∷ numbers)) in
    let other = (are m).0 (Contains-tail n (m ∷ numbers) m (Contains-head m numbers)) in
    absurd (once.0 m (Contains-head m numbers) (first ∙ sym other))

one_is_zero : numbers_of 1 ≡ 0 ∷ []
one_is_zero =
    zero_alone (numbers_of 1) (numbers_once 1)
    (λ n. (λ h. (has_zero_alone n).0 ((contains_numbers 1 n).0 h), λ is. (contains_numbers 1 n).1 ((has_zero_alone n).1 is)))

map-map : (n : ℕ) (rows : List (List ℕ)) → map (λ row. n ∷ row) (map longer rows) ≡ map longer (map (λ row. n ∷ row) rows)
map-map n [] = refl
map-map n (row ∷ rows) = ap (λ rest. (n ∷ longer row) ∷ rest) (map-map n rows)

map-both : (xs ys : List (List ℕ)) → map longer xs ++ map longer ys ≡ map longer (xs ++ ys)
map-both [] ys = refl
map-both (x ∷ xs) ys = ap (λ rest. longer x ∷ rest) (map-both xs ys)

spread : (numbers : List ℕ) (rows : List (List ℕ)) → flat_map (λ number. map (λ row. number ∷ row) (map longer rows)) numbers ≡ map longer (flat_map (λ number. map (λ row. number ∷ row) rows) numbers)
spread [] rows = refl
spread (n ∷ numbers) rows =
    ap (λ front. front ++ flat_map (λ number. map (λ row. number ∷ row) (map longer rows)) numbers) (map-map n rows)
    ∙ ap (λ rest. map longer (map (λ row. n ∷ row) rows) ++ rest) (spread numbers rows)
    ∙ map-both (map (λ row. n ∷ row) rows) (flat_map (λ number. map (λ row. number ∷ row) rows) numbers)

sets_longer : (sets : List ℕ) → rows_of_sets (sets ++ 1 ∷ []) ≡ map longer (rows_of_sets sets)
sets_longer [] = ap (flat_map (λ number. map (λ row. number ∷ row) ([] ∷ []))) one_is_zero
sets_longer (s ∷ sets) =
    ap (λ rows. flat_map (λ number. map (λ row. number ∷ row) rows) (numbers_of s)) (sets_longer sets) ∙ spread (numbers_of s) (rows_of_sets sets)

pub rows_longer : (products : List Product) → rows_in (map (λ product. (product.0, product.1 ++ 1 ∷ [])) products) ≡ map (λ row. row ++ 0 ∷ []) (rows_in products)
rows_longer [] = refl
rows_longer (product ∷ products) =
    ap (λ rows. map (λ row. product.0 ∷ row) rows ++ rows_in (map (λ (p : Product). (p.0, p.1 ++ 1 ∷ [])) products)) (sets_longer product.1)
    ∙ ap (λ front. front ++ rows_in (map (λ (p : Product). (p.0, p.1 ++ 1 ∷ [])) products)) (map-map product.0 (rows_of_sets product.1))
    ∙ ap (λ rest. map longer (rows_of_product product) ++ rest) (rows_longer products)
    ∙ map-both (rows_of_product product) (rows_in products)
