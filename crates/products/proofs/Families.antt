-- Families of products, laid out in words
use Rattle.std.proofs.Common.{◌≡◌, ◌↔◌, ◌⊎◌, ◌≢◌, ◌<◌, ◌≤◌, ◌+◌, ◌-◌, ◌*◌, ◌^◌, ◌∷◌, ◌++◌, [], ℕ, zero, suc, min, List, Some, length, map, take, drop, set, get_or, refl, ap, sym, ◌∙◌, subst, inl, inr, arith}
use Rattle.std.specs.Prelude.{Result, Ok, Err, OnErr, OnOk}
use Rattle.std.specs.List.{slice_get, Contains}
use Rattle.std.proofs.lemmas.List.{get_or_read, length-append, append_assoc, length-take, length-take-le, length-drop, length-map, length-set, append-nil, take-append-le, take_at, drop-append-le, drop_at, drop-drop, drop-set-lt, drop-set-add, take-set-le, take_all, nil_from_length}
use Rattle.std.proofs.lemmas.List.Concat.{flat_map-append}
use Rattle.std.proofs.lemmas.Option.{same_Some, none-some}
use Rattle.std.proofs.Math.Nat.{mul-le-mul_right}
use Rattle.rows.proofs.Elements.{Contains-cons_cases, Contains-head, Contains-nil}
use Rattle.products.proofs.Lists.{same_length}
use Rattle.products.proofs.Sets.{length_rows_push}
use Rattle.products.proofs.Numbers.{contains_numbers, has_zero_alone, numbers_once}
use Rattle.products.specs.Products.{AreIn, numbers_of, IsIn, IsInAt, IsInOne, AreApart, Family, Product, laid_out, rows_in, rows_of_product, rows_of_sets}

-- a fact that always holds
pub on_err : {T E P : Type 0} (r : Result T E) → P → OnErr r P
on_err (Ok x) p = tt
on_err (Err e) p = p

pub on_ok : {T E P : Type 0} (r : Result T E) → P → OnOk r P
on_ok (Ok x) p = p
on_ok (Err e) p = tt

pub length-laid_out : (places : ℕ) (firsts words : List ℕ) → length (laid_out places firsts words) ≡ length firsts
length-laid_out places [] words = refl
length-laid_out places (first ∷ firsts) words = ap suc (length-laid_out places firsts (drop places words))

-- the product at a place
pub laid_out_at : (places at : ℕ) (firsts words : List ℕ) → at < length firsts
    → slice_get (laid_out places firsts words) at ≡ Some (get_or firsts at 0, take places (drop (at * places) words))
laid_out_at places at [] words within = absurd (omega arith)
laid_out_at places zero (first ∷ firsts) words within =
    let none : 0 * places ≡ 0 = omega arith in ap (λ n. Some (first, take places (drop n words))) (sym none)
laid_out_at places (suc at) (first ∷ firsts) words within =
    let further : places + at * places ≡ suc at * places = omega arith in
    laid_out_at places at firsts (drop places words) (omega arith)
    ∙ ap (λ w. Some (get_or firsts at 0, take places w)) (drop-drop (at * places) places words ∙ ap (λ n. drop n words) further)

-- one more product
pub laid_out_push : (places first : ℕ) (sets firsts words : List ℕ) → length words ≡ length firsts * places → length sets ≡ places
    → laid_out places (firsts ++ first ∷ []) (words ++ sets) ≡ laid_out places firsts words ++ (first, sets) ∷ []
laid_out_push places first sets [] words long one =
    let none : words ≡ [] = nil_from_length words (omega arith) in
    ap (λ w. (first, take places (w ++ sets)) ∷ []) none ∙ ap (λ s. (first, s) ∷ []) (take_all places sets (omega arith))
laid_out_push places first sets (other ∷ firsts) words long one =
    let enough : places ≤ length words = omega arith in
    let rest : length (drop places words) ≡ length firsts * places = omega (arith, length-drop places words) in
    ap (λ s. (other, s) ∷ laid_out places (firsts ++ first ∷ []) (drop places (words ++ sets))) (take-append-le places words sets enough)
    ∙ ap (λ w. (other, take places words) ∷ laid_out places (firsts ++ first ∷ []) w) (drop-append-le places words sets enough)
    ∙ ap (λ l. (other, take places words) ∷ l) (laid_out_push places first sets firsts (drop places words) rest one)

-- a word changed in the first of two parts
take_set : (n i word : ℕ) (words : List ℕ) → i < n → take n (set words i word) ≡ set (take n words) i word
take_set zero i word words within = absurd (omega arith)
take_set (suc n) i word [] within = refl
take_set (suc n) zero word (w ∷ words) within = refl
take_set (suc n) (suc i) word (w ∷ words) within = ap (λ l. w ∷ l) (take_set n i word words (omega arith))

-- a word changed in one product
pub laid_out_set : (places at place word : ℕ) (firsts words : List ℕ) → at < length firsts → place < places
    → laid_out places firsts (set words (at * places + place) word)
    ≡ set (laid_out places firsts words) at (get_or firsts at 0, set (take places (drop (at * places) words)) place word)
laid_out_set places at place word [] words within inner = absurd (omega arith)
laid_out_set places zero place word (first ∷ firsts) words within inner =
    let none : 0 * places ≡ 0 = omega arith in
    let here : 0 * places + place ≡ place = omega arith in
    ap (λ n. laid_out places (first ∷ firsts) (set words n word)) here
    ∙ ap (λ s. (first, s) ∷ laid_out places firsts (drop places (set words place word))) (take_set places place word words inner)
    ∙ ap (λ w. (first, set (take places words) place word) ∷ laid_out places firsts w) (drop-set-lt places words place word inner)
    ∙ ap (λ n. (first, set (take places (drop n words)) place word) ∷ laid_out places firsts (drop places words)) (sym none)
laid_out_set places (suc at) place word (first ∷ firsts) words within inner =
    let far : suc at * places + place ≡ places + (at * places + place) = omega arith in
    let further : places + at * places ≡ suc at * places = omega arith in
    let beyond : places ≤ places + (at * places + place) = omega arith in
    ap (λ n. laid_out places (first ∷ firsts) (set words n word)) far
    ∙ ap (λ s. (first, s) ∷ laid_out places firsts (drop places (set words (places + (at * places + place)) word))) (take-set-le places words (places + (at * places + place)) word beyond)
    ∙ ap (λ w. (first, take places words) ∷ laid_out places firsts w) (drop-set-add places words (at * places + place) word)
    ∙ ap (λ l. (first, take places words) ∷ l) (laid_out_set places at place word firsts (drop places words) (omega arith) inner)
    ∙ ap (λ w. (first, take places words) ∷ set (laid_out places firsts (drop places words)) at (get_or firsts at 0, set (take places w) place word))
    (drop-drop (at * places) places words ∙ ap (λ n. drop n words) further)

pub length-rows_of_product : (product : Product) → length (rows_of_product product) ≡ length (rows_of_sets product.1)
length-rows_of_product product = length-map (rows_of_sets product.1) (λ row. product.0 ∷ row)

-- how many rows there are with one more product
pub length-rows_push : (products : List Product) (product : Product)
    → length (rows_in (products ++ product ∷ [])) ≡ length (rows_in products) + length (rows_of_sets product.1)
length-rows_push products product =
    ap length (flat_map-append rows_of_product products (product ∷ []))
    ∙ length-append (rows_in products) (rows_of_product product ++ [])
    ∙ ap (λ l. length (rows_in products) + length l) (append-nil (rows_of_product product))
    ∙ ap (λ n. length (rows_in products) + n) (length-rows_of_product product)

-- how many there are where a product has got more rows
pub length-rows_set : (products : List Product) (at more : ℕ) (old new : Product) → slice_get products at ≡ Some old
    → length (rows_of_sets new.1) ≡ length (rows_of_sets old.1) + more
    → length (rows_in (set products at new)) ≡ length (rows_in products) + more
length-rows_set [] at more old new there longer = absurd (none-some old there)
length-rows_set (product ∷ products) zero more old new there longer =
    let same : product ≡ old = same_Some product old there in
    let before = length-append (rows_of_product product) (rows_in products) in
    let after = length-append (rows_of_product new) (rows_in products) in
    let one = length-rows_of_product new in
    let other = length-rows_of_product product in
    let was : length (rows_of_sets product.1) ≡ length (rows_of_sets old.1) = ap (λ (p : Product). length (rows_of_sets p.1)) same in
    omega (arith, before, after, one, other, was, longer)
length-rows_set (product ∷ products) (suc at) more old new there longer =
    let before = length-append (rows_of_product product) (rows_in products) in
    let after = length-append (rows_of_product product) (rows_in (set products at new)) in
    let rest = length-rows_set products at more old new there longer in
    omega (arith, before, after, rest)

-- where a row stands behind one more product
pub in_push : (products : List Product) (product : Product) (at : ℕ) (row : List ℕ) → IsInAt (products ++ product ∷ []) at row
    → IsInAt products at row ⊎ ((at ≡ length products) × IsIn product row)
in_push [] product zero row i = inr (refl, subst (λ (p : Product). IsIn p row) (sym (same_Some product i.0 i.1)) i.2)
in_push [] product (suc at) row i = absurd (none-some i.0 i.1)
in_push (other ∷ products) product zero row i = inl i
in_push (other ∷ products) product (suc at) row i =
    elim (in_push products product at row i) [ inl there ↦ inl there | inr last ↦ inr (ap suc last.0, last.1) ]

pub push_kept : (products : List Product) (product : Product) (at : ℕ) → at < length products
    → slice_get (products ++ product ∷ []) at ≡ slice_get products at
push_kept [] product at within = absurd (omega arith)
push_kept (other ∷ products) product zero within = refl
push_kept (other ∷ products) product (suc at) within = push_kept products product at (omega arith)

pub push_last : (products : List Product) (product : Product) → slice_get (products ++ product ∷ []) (length products) ≡ Some product
push_last [] product = refl
push_last (other ∷ products) product = push_last products product

pub set_here : (products : List Product) (at : ℕ) (product : Product) → at < length products
    → slice_get (set products at product) at ≡ Some product
set_here [] at product within = absurd (omega arith)
set_here (other ∷ products) zero product within = refl
set_here (other ∷ products) (suc at) product within = set_here products at product (omega arith)

pub set_there : (products : List Product) (at i : ℕ) (product : Product) → i ≢ at
    → slice_get (set products at product) i ≡ slice_get products i
set_there [] at i product other = refl
set_there (p ∷ products) zero zero product other = absurd (other refl)
set_there (p ∷ products) zero (suc i) product other = refl
set_there (p ∷ products) (suc at) zero product other = refl
set_there (p ∷ products) (suc at) (suc i) product other = set_there products at i product (λ same. other (ap suc same))

-- a part of the words that a product takes up
pub span_within : (at places firsts words : ℕ) → words ≡ firsts * places → at < firsts → at * places + places ≤ words
span_within at places firsts words long within =
    let more : suc at * places ≤ firsts * places = mul-le-mul_right places within in
    let one : suc at * places ≡ at * places + places = omega arith in
    omega arith

-- the fields of a family
abbrev pub IsKept : ℕ → ℕ → List ℕ → List ℕ → Type 0
IsKept places rows firsts words =
    (length words ≡ length firsts * places) × AreApart (laid_out places firsts words)
    × (rows ≡ min (length (rows_in (laid_out places firsts words))) (2 ^ 64 - 1))

pub kept_same : (p p' r r' : ℕ) (f f' w w' : List ℕ) → p' ≡ p → r' ≡ r → f' ≡ f → w' ≡ w → IsKept p r f w → IsKept p' r' f' w'
kept_same p p' r r' f f' w w' ps rs fs ws kept =
    subst (λ n. IsKept n r' f' w') (sym ps)
    (subst (λ n. IsKept p n f' w') (sym rs)
    (subst (λ l. IsKept p r l w') (sym fs)
    (subst (λ l. IsKept p r f l) (sym ws) kept)))

-- the view of them
pub view_long : (places : ℕ) (firsts words : List ℕ) (family : Family) → (places, laid_out places firsts words) ≡ family
    → length family.1 ≡ length firsts
view_long places firsts words family view = sym (ap (λ (f : Family). length f.1) view) ∙ length-laid_out places firsts words

pub view_at : (places : ℕ) (firsts words : List ℕ) (family : Family) → (places, laid_out places firsts words) ≡ family
    → (at : ℕ) → at < length firsts
    → slice_get family.1 at ≡ Some (get_or firsts at 0, take places (drop (at * places) words))
view_at places firsts words family view at within =
    sym (ap (λ (f : Family). slice_get f.1 at) view) ∙ laid_out_at places at firsts words within

pub view_product : (places : ℕ) (firsts words : List ℕ) (family : Family) → (places, laid_out places firsts words) ≡ family
    → (at : ℕ) → at < length firsts → (product : Product) → slice_get family.1 at ≡ Some product
    → product ≡ (get_or firsts at 0, take places (drop (at * places) words))
view_product places firsts words family view at within product there =
    same_Some product (get_or firsts at 0, take places (drop (at * places) words)) (sym there ∙ view_at places firsts words family view at within)

-- the words of n products, each with the set of zero alone behind it
abbrev pub longer : ℕ → ℕ → List ℕ → List ℕ
longer places zero words = []
longer places (suc n) words = take places words ++ (1 ∷ longer places n (drop places words))

pub longer_more : (places n : ℕ) (words : List ℕ)
    → longer places (n + 1) words ≡ longer places n words ++ (take places (drop (n * places) words) ++ 1 ∷ [])
longer_more places zero words =
    let none : 0 * places ≡ 0 = omega arith in
    ap (λ k. take places (drop k words) ++ 1 ∷ []) (sym none)
longer_more places (suc n) words =
    let further : places + n * places ≡ suc n * places = omega arith in
    let again : suc n + 1 ≡ suc (n + 1) = omega arith in
    ap (λ k. longer places k words) again
    ∙ ap (λ l. take places words ++ (1 ∷ l)) (longer_more places n (drop places words))
    ∙ ap (λ w. take places words ++ (1 ∷ (longer places n (drop places words) ++ (take places w ++ 1 ∷ []))))
    (drop-drop (n * places) places words ∙ ap (λ k. drop k words) further)
    ∙ sym (append_assoc (take places words) (1 ∷ longer places n (drop places words)) (take places (drop (suc n * places) words) ++ 1 ∷ []))

pub length-longer : (places n : ℕ) (words : List ℕ) → length words ≡ n * places → length (longer places n words) ≡ n * (places + 1)
length-longer places zero words long = omega arith
length-longer places (suc n) words long =
    let rest : length (drop places words) ≡ n * places = omega (arith, length-drop places words) in
    let front = length-take places words in
    let both = length-append (take places words) (1 ∷ longer places n (drop places words)) in
    let more = length-longer places n (drop places words) rest in
    omega (arith, front, both, more)

abbrev pub with_zero : Product → Product
with_zero product = (product.0, product.1 ++ 1 ∷ [])

pub laid_out_longer : (places : ℕ) (firsts words : List ℕ) → length words ≡ length firsts * places
    → laid_out (places + 1) firsts (longer places (length firsts) words) ≡ map with_zero (laid_out places firsts words)
laid_out_longer places [] words long = refl
laid_out_longer places (first ∷ firsts) words long =
    let enough : places ≤ length words = omega arith in
    let rest : length (drop places words) ≡ length firsts * places = omega (arith, length-drop places words) in
    let tail = longer places (length firsts) (drop places words) in
    let front : length (take places words ++ 1 ∷ []) ≡ places + 1 = length-append (take places words) (1 ∷ []) ∙ ap (λ n. n + 1) (length-take-le places words enough) in
    let parts : longer places (length (first ∷ firsts)) words ≡ (take places words ++ 1 ∷ []) ++ tail = sym (append_assoc (take places words) (1 ∷ []) tail) in
    ap (laid_out (places + 1) (first ∷ firsts)) parts
    ∙ ap (λ s. (first, s) ∷ laid_out (places + 1) firsts (drop (places + 1) ((take places words ++ 1 ∷ []) ++ tail))) (take_at (take places words ++ 1 ∷ []) tail (places + 1) front)
    ∙ ap (λ w. (first, take places words ++ 1 ∷ []) ∷ laid_out (places + 1) firsts w) (drop_at (take places words ++ 1 ∷ []) tail (places + 1) front)
    ∙ ap (λ l. (first, take places words ++ 1 ∷ []) ∷ l) (laid_out_longer places firsts (drop places words) rest)

-- a row without its last number
abbrev pub front : List ℕ → List ℕ
front [] = []
front (n ∷ []) = []
front (n ∷ m ∷ row) = n ∷ front (m ∷ row)

are_in_front : (sets : List ℕ) (set : ℕ) (row : List ℕ) → AreIn (sets ++ set ∷ []) row → AreIn sets (front row)
are_in_front [] set [] i = absurd i
are_in_front [] set (n ∷ []) i = tt
are_in_front [] set (n ∷ m ∷ row) i = absurd i.1
are_in_front (s ∷ sets) set [] i = absurd i
are_in_front (s ∷ []) set (n ∷ []) i = absurd i.1
are_in_front (s ∷ t ∷ sets) set (n ∷ []) i = absurd i.1
are_in_front (s ∷ sets) set (n ∷ m ∷ row) i = (i.0, are_in_front sets set (m ∷ row) i.1)

in_front : (product : Product) (row : List ℕ) → IsIn (with_zero product) row → IsIn product (front row)
in_front product [] i = absurd i
in_front (first, []) (n ∷ []) i = absurd i.1
in_front (first, s ∷ sets) (n ∷ []) i = absurd i.1
in_front product (n ∷ m ∷ row) i = (i.0, are_in_front product.1 1 (m ∷ row) i.1)

in_front_at : (products : List Product) (at : ℕ) (row : List ℕ) → IsInAt (map with_zero products) at row → IsInAt products at (front row)
in_front_at [] at row i = absurd (none-some i.0 i.1)
in_front_at (product ∷ products) zero row i =
    (product, refl, in_front product row (subst (λ (p : Product). IsIn p row) (sym (same_Some (with_zero product) i.0 i.1)) i.2))
in_front_at (product ∷ products) (suc at) row i = in_front_at products at row i

pub apart_longer : (products : List Product) → AreApart products → AreApart (map with_zero products)
apart_longer products apart i j row a b = apart i j (front row) (in_front_at products i row a) (in_front_at products j row b)

-- how many rows there are with one number more each
one_zero : length (numbers_of 1) ≡ 1
one_zero =
    same_length (numbers_of 1) (0 ∷ []) (numbers_once 1) ((λ x h. absurd (Contains-nil x h)), tt)
    (λ x h. subst (Contains (0 ∷ [])) (sym ((has_zero_alone x).0 ((contains_numbers 1 x).0 h))) (Contains-head 0 []))
    (λ x h. elim (Contains-cons_cases 0 [] x h) [
      | inl same ↦ (contains_numbers 1 x).1 ((has_zero_alone x).1 (sym same))
      | inr none ↦ absurd (Contains-nil x none)
    ])

length_longer_sets : (sets : List ℕ) → length (rows_of_sets (sets ++ 1 ∷ [])) ≡ length (rows_of_sets sets)
length_longer_sets sets =
    length_rows_push sets 1 ∙ ap (λ n. length (rows_of_sets sets) * n) one_zero ∙ omega arith

pub length_longer_rows : (products : List Product) → length (rows_in (map with_zero products)) ≡ length (rows_in products)
length_longer_rows [] = refl
length_longer_rows (product ∷ products) =
    length-append (rows_of_product (with_zero product)) (rows_in (map with_zero products))
    ∙ ap (λ n. n + length (rows_in (map with_zero products)))
    (length-rows_of_product (with_zero product) ∙ length_longer_sets product.1 ∙ sym (length-rows_of_product product))
    ∙ ap (λ n. length (rows_of_product product) + n) (length_longer_rows products)
    ∙ sym (length-append (rows_of_product product) (rows_in products))

-- the fields of the longer family
pub kept_longer : (places rows : ℕ) (firsts words : List ℕ) → IsKept places rows firsts words
    → IsKept (places + 1) rows firsts (longer places (length firsts) words)
kept_longer places rows firsts words kept =
    let same = laid_out_longer places firsts words kept.0 in (
      length-longer places (length firsts) words kept.0,
      subst AreApart (sym same) (apart_longer (laid_out places firsts words) kept.1),
      kept.2 ∙ ap (λ n. min n (2 ^ 64 - 1)) (sym (ap (λ l. length (rows_in l)) same ∙ length_longer_rows (laid_out places firsts words))),
    )

-- a product that has got the rows of another one, which are new
pub in_set : (products : List Product) (at i : ℕ) (old new added : Product) (row : List ℕ) → slice_get products at ≡ Some old
    → (IsIn new row → IsIn old row ⊎ IsIn added row) → IsInAt (set products at new) i row
    → IsInAt products i row ⊎ ((i ≡ at) × IsIn added row)
in_set [] at i old new added row there joined h = absurd (none-some old there)
in_set (p ∷ products) zero zero old new added row there joined h =
    elim (joined (subst (λ (q : Product). IsIn q row) (sym (same_Some new h.0 h.1)) h.2)) [
      | inl was ↦ inl (old, there, was)
      | inr more ↦ inr (refl, more)
    ]
in_set (p ∷ products) zero (suc i) old new added row there joined h = inl h
in_set (p ∷ products) (suc at) zero old new added row there joined h = inl h
in_set (p ∷ products) (suc at) (suc i) old new added row there joined h =
    elim (in_set products at i old new added row there joined h) [ inl was ↦ inl was | inr more ↦ inr (ap suc more.0, more.1) ]

pub set_kept : (products : List Product) (at i : ℕ) (old new : Product) (row : List ℕ) → slice_get products at ≡ Some old
    → (IsIn old row → IsIn new row) → IsInAt products i row → IsInAt (set products at new) i row
set_kept [] at i old new row there joined h = absurd (none-some old there)
set_kept (p ∷ products) zero zero old new row there joined h =
    (new, refl, joined (subst (λ (q : Product). IsIn q row) (same_Some h.0 old (sym h.1 ∙ there)) h.2))
set_kept (p ∷ products) zero (suc i) old new row there joined h = h
set_kept (p ∷ products) (suc at) zero old new row there joined h = h
set_kept (p ∷ products) (suc at) (suc i) old new row there joined h = set_kept products at i old new row there joined h

pub apart_set : (products : List Product) (at : ℕ) (old new added : Product) → AreApart products → slice_get products at ≡ Some old
    → ((row : List ℕ) → IsIn new row → IsIn old row ⊎ IsIn added row) → ((row : List ℕ) → IsIn added row → ¬ IsInOne products row)
    → AreApart (set products at new)
apart_set products at old new added apart there joined none i j row a b =
    elim (in_set products at i old new added row there (joined row) a) [
      | inl was ↦ elim (in_set products at j old new added row there (joined row) b) [
        | inl same ↦ apart i j row was same
        | inr more ↦ absurd (none row more.1 (i, was))
      ]
      | inr here ↦ elim (in_set products at j old new added row there (joined row) b) [
        | inl same ↦ absurd (none row here.1 (j, same))
        | inr more ↦ here.0 ∙ sym more.0
      ]
    ]

pub apart_push : (products : List Product) (product : Product) → AreApart products
    → ((row : List ℕ) → IsIn product row → ¬ IsInOne products row) → AreApart (products ++ product ∷ [])
apart_push products product apart none i j row a b =
    elim (in_push products product i row a) [
      | inl was ↦ elim (in_push products product j row b) [
        | inl same ↦ apart i j row was same
        | inr more ↦ absurd (none row more.1 (i, was))
      ]
      | inr here ↦ elim (in_push products product j row b) [
        | inl same ↦ absurd (none row here.1 (j, same))
        | inr more ↦ here.0 ∙ sym more.0
      ]
    ]

pub is_in_joined : (first : ℕ) (sets others both row : List ℕ)
    → ((row : List ℕ) → AreIn both row ↔ (AreIn others row ⊎ AreIn sets row)) → IsIn (first, both) row
    → IsIn (first, others) row ⊎ IsIn (first, sets) row
is_in_joined first sets others both [] joined h = absurd h
is_in_joined first sets others both (n ∷ row) joined h =
    elim ((joined row).0 h.1) [ inl was ↦ inl (h.0, was) | inr more ↦ inr (h.0, more) ]

pub is_in_either : (first : ℕ) (sets others both row : List ℕ)
    → ((row : List ℕ) → AreIn both row ↔ (AreIn others row ⊎ AreIn sets row))
    → IsIn (first, others) row ⊎ IsIn (first, sets) row → IsIn (first, both) row
is_in_either first sets others both [] joined h = elim h [ inl was ↦ was | inr more ↦ more ]
is_in_either first sets others both (n ∷ row) joined h =
    elim h [ inl was ↦ (was.0, (joined row).1 (inl was.1)) | inr more ↦ (more.0, (joined row).1 (inr more.1)) ]

-- the fields with one more product
pub kept_pushed : (places rows more first : ℕ) (sets firsts words : List ℕ) → IsKept places rows firsts words → length sets ≡ places
    → more ≡ min (length (rows_of_sets sets)) (2 ^ 64 - 1)
    → ((row : List ℕ) → IsIn (first, sets) row → ¬ IsInOne (laid_out places firsts words) row)
    → IsKept places (min (rows + more) (2 ^ 64 - 1)) (firsts ++ first ∷ []) (words ++ sets)
kept_pushed places rows more first sets firsts words kept one enough none =
    let same = laid_out_push places first sets firsts words kept.0 one in
    let counted = length-rows_push (laid_out places firsts words) (first, sets) in
    let count : length (rows_in (laid_out places (firsts ++ first ∷ []) (words ++ sets))) ≡ length (rows_in (laid_out places firsts words)) + length (rows_of_sets sets) =
    ap (λ l. length (rows_in l)) same ∙ counted in
    let was = kept.2 in
    let before = kept.0 in (
      let long = length-append words sets in let longer : length (firsts ++ first ∷ []) * places ≡ (length firsts + 1) * places = ap (λ n. n * places) (length-append firsts (first ∷ [])) in let more : (length firsts + 1) * places ≡ length firsts * places + places = omega arith in omega (arith, long, longer, more, before),
      subst AreApart (sym same) (apart_push (laid_out places firsts words) (first, sets) kept.1 none),
      omega (arith, count, was, enough),
    )

-- the fields where a product has got new rows
pub kept_replaced : (places rows more at place word : ℕ) (sets firsts words : List ℕ) → IsKept places rows firsts words
    → at < length firsts → place < places → more ≡ min (length (rows_of_sets sets)) (2 ^ 64 - 1)
    → ((row : List ℕ) → IsIn (get_or firsts at 0, sets) row → ¬ IsInOne (laid_out places firsts words) row)
    → ((row : List ℕ) → AreIn (set (take places (drop (at * places) words)) place word) row ↔ (AreIn (take places (drop (at * places) words)) row ⊎ AreIn sets row))
    → length (rows_of_sets (set (take places (drop (at * places) words)) place word)) ≡ length (rows_of_sets (take places (drop (at * places) words))) + length (rows_of_sets sets)
    → IsKept places (min (rows + more) (2 ^ 64 - 1)) firsts (set words (at * places + place) word)
kept_replaced places rows more at place word sets firsts words kept within inner enough none joined counted =
    let others = take places (drop (at * places) words) in
    let first = get_or firsts at 0 in
    let there = laid_out_at places at firsts words within in
    let same = laid_out_set places at place word firsts words within inner in
    let count : length (rows_in (laid_out places firsts (set words (at * places + place) word))) ≡ length (rows_in (laid_out places firsts words)) + length (rows_of_sets sets) =
    ap (λ l. length (rows_in l)) same ∙ length-rows_set (laid_out places firsts words) at (length (rows_of_sets sets)) (first, others) (first, set others place word) there counted in
    let was = kept.2 in (
      length-set words (at * places + place) word ∙ kept.0,
      subst AreApart (sym same) (apart_set (laid_out places firsts words) at (first, others) (first, set others place word) (first, sets) kept.1 there
          (λ row h. is_in_joined first sets others (set others place word) row joined h) none),
      omega (arith, count, was, enough),
    )

-- the product at a place, by its first number and its sets as they are read
pub found_at : (places : ℕ) (firsts words : List ℕ) (family : Family) → (places, laid_out places firsts words) ≡ family
    → (at index first : ℕ) (sets : List ℕ) → at < length firsts → index ≡ get_or firsts at index → index ≡ first
    → ((product : Product) → slice_get family.1 at ≡ Some product → sets ≡ product.1)
    → slice_get family.1 at ≡ Some (first, sets)
found_at places firsts words family view at index first sets within read same said =
    let there = view_at places firsts words family view at within in
    let number : get_or firsts at 0 ≡ first = sym (get_or_read firsts at index within read 0) ∙ same in
    there ∙ ap (λ n. Some (n, take places (drop (at * places) words))) number
    ∙ ap (λ l. Some (first, l)) (sym (said (get_or firsts at 0, take places (drop (at * places) words)) there))

-- a fact about the product at a place
pub at_place : (P : Product → Type 0) (products : List Product) (at : ℕ) (product : Product) → slice_get products at ≡ Some product → P product
    → (other : Product) → slice_get products at ≡ Some other → P other
at_place P products at product there holds other here = subst P (same_Some product other (sym there ∙ here)) holds

-- each product has the same number of sets
pub view_sets : (places : ℕ) (firsts words : List ℕ) (family : Family) → (places, laid_out places firsts words) ≡ family
    → length words ≡ length firsts * places → (at : ℕ) → at < length firsts → (product : Product) → slice_get family.1 at ≡ Some product
    → length product.1 ≡ places
view_sets places firsts words family view long at within product there =
    let span = span_within at places (length firsts) (length words) long within in
    ap (λ (p : Product). length p.1) (view_product places firsts words family view at within product there)
    ∙ length-take places (drop (at * places) words)
    ∙ omega (arith, span, length-drop (at * places) words)
