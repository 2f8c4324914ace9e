-- the rest of rows without their number at a place
use Rattle.std.proofs.Common.{◌≡◌, ◌↔◌, ◌⊎◌, inl, inr, ⊎_elim, ℕ, zero, suc, ◌+◌, ◌-◌, ◌^◌, ◌<◌, ◌≤◌, Bool, true, false, Some, None, Option, IfSome, Result, Ok, Err, OnOk, List, [], ◌∷◌, length, slice_get, get_or, bit_or, refl, sym, ap, ◌∙◌, subst, arith}
use Rattle.std.specs.List.{insert, remove}
use Rattle.std.specs.Int.{bit_at}
use Rattle.std.proofs.lemmas.Bool.{cases_eq, true≢false}
use Rattle.std.proofs.lemmas.Nat.{le_or_l, le_or_r}
use Rattle.std.proofs.lemmas.Nat.Bits.{bit_at_or, bit_at-lt}
use Rattle.std.proofs.lemmas.Option.{get_or_from_slice_get, slice_get-get_or, slice_get_within, same_Some, none-some}
use Rattle.rows.specs.RowSets.{mark_of}
use Rattle.products.specs.Products.{AreApart, AreIn, Has, HasWith, IsIn, IsInAt, IsInOne, IsLeft, Product, Puts}
use Rattle.products.specs.Taking.{IsLeftOf, IsOneMarked}

-- numbers without the one at a place
without : (sets numbers : List ℕ) (place number : ℕ) → AreIn sets numbers → slice_get numbers place ≡ Some number → Has (get_or sets place 0) number × AreIn (remove sets place) (remove numbers place)
without [] [] place number are there = absurd (none-some number there)
without [] (n ∷ numbers) place number are there = absurd are
without (set ∷ sets) [] place number are there = absurd are
without (set ∷ sets) (n ∷ numbers) zero number are there = (subst (Has set) (same_Some n number there) are.0, are.1)
without (set ∷ sets) (n ∷ numbers) (suc place) number are there =
    let {- the same of the rest -} r = without sets numbers place number are.1 there in (r.0, (are.0, r.1))

-- and with one at a place again
abbrev With : List ℕ → List ℕ → ℕ → ℕ → Type 0
With sets numbers place number =
    AreIn sets (insert numbers place number) × (slice_get (insert numbers place number) place ≡ Some number) × (remove (insert numbers place number) place ≡ numbers)

with_one : (sets numbers : List ℕ) (place number : ℕ) → place < length sets → Has (get_or sets place 0) number → AreIn (remove sets place) numbers → With sets numbers place number
with_one [] numbers place number lt has are = absurd (omega arith)
with_one (set ∷ sets) numbers zero number lt has are = ((has, are), refl, refl)
with_one (set ∷ sets) [] (suc place) number lt has are = absurd are
with_one (set ∷ sets) (n ∷ numbers) (suc place) number lt has are =
    let {- the same of the rest -} r = with_one sets numbers place number (omega (arith, lt)) has are.1 in ((are.0, r.0), r.1, ap (λ ns. n ∷ ns) r.2)

-- rows with the same number at a place are the same if they are the same without it
same_again : (row other : List ℕ) (place number : ℕ) → slice_get row place ≡ Some number → slice_get other place ≡ Some number → remove row place ≡ remove other place → row ≡ other
same_again [] other place number has too same = absurd (none-some number has)
same_again (n ∷ row) [] place number has too same = absurd (none-some number too)
same_again (n ∷ row) (m ∷ other) zero number has too same = cc
same_again (n ∷ row) (m ∷ other) (suc place) number has too same =
    let rest = same_again row other place number has too (tails same) in
    let first = heads same in
    cc
  where
    tails : n ∷ remove row place ≡ m ∷ remove other place → remove row place ≡ remove other place
    tails e = cc

    heads : n ∷ remove row place ≡ m ∷ remove other place → n ≡ m
    heads e = cc

-- the consequences of an Ok
pub on_ok : {T E : Type 0} (r : Result T E) (P Q : Type 0) → (P → Q) → OnOk r P → OnOk r Q
on_ok (Ok v) P Q f p = f p
on_ok (Err e) P Q f p = tt

-- the rest of the product at a place, where P holds for the number of a row that is left out
abbrev pub IsLeftAt : (ℕ → Type 0) → List Product → ℕ → ℕ → List ℕ → Type 0
IsLeftAt P products place at left =
    (row : List ℕ) × IsInAt products at row × ((number : ℕ) × (slice_get row place ≡ Some number) × P number) × (remove row place ≡ left)

pub product_there : (products : List Product) (at first : ℕ) (sets : List ℕ) → at < length products
    → ((product : Product) → slice_get products at ≡ Some product → first ≡ product.0) → ((product : Product) → slice_get products at ≡ Some product → sets ≡ product.1) → slice_get products at ≡ Some (first, sets)
product_there products at first sets lt firsts are =
    let there = slice_get-get_or products at (0, []) lt in
    there ∙ (λ i. Some (sym (firsts (get_or products at (0, [])) there) i, sym (are (get_or products at (0, [])) there) i))

pub product_here : (products : List Product) (at : ℕ) (sets : List ℕ) → at < length products → ((product : Product) → slice_get products at ≡ Some product → sets ≡ product.1)
    → slice_get products at ≡ Some ((get_or products at (0, [])).0, sets)
product_here products at sets lt are =
    product_there products at (get_or products at (0, [])).0 sets lt (λ product there. ap (λ p. p.0) (get_or_from_slice_get products at product (0, []) there)) are

-- a product that is put brings its rows
pub puts_with : (product : Product) (old new : List Product) → Puts product 0 old new → HasWith (IsIn product) old new
puts_with product old new puts row = (
  (λ is. ⊎_elim (λ was. inl (is.0, was)) inr (puts.only is.0 row is.1)),
  ⊎_elim (λ was. (was.0, puts.kept was.0 row was.1)) (puts.all row),
)

has_there : (product : Product) (row : List ℕ) (place number : ℕ) → IsIn product row → slice_get row (suc place) ≡ Some number → Has (get_or product.1 place 0) number
has_there product [] place number is there = absurd is
has_there product (n ∷ numbers) place number is there = (without product.1 numbers place number is.1 there).0

module _ (products : List Product) (at first : ℕ) (sets : List ℕ) (here : slice_get products at ≡ Some (first, sets)) where
  in_it : (row : List ℕ) → IsInAt products at row → IsIn (first, sets) row
  in_it row is = subst (λ product. IsIn product row) (same_Some is.0 (first, sets) (sym is.1 ∙ here)) is.2

  there_before : (P : ℕ → Type 0) (place : ℕ) → place < length sets → (number : ℕ) → Has (get_or sets place 0) number → P number → (row : List ℕ) → IsIn (first, remove sets place) row → IsLeftAt P products (suc place) at row
  there_before P place within number has p [] is = absurd is
  there_before P place within number has p (n ∷ numbers) is =
      let {- with the number again -} r = with_one sets numbers place number within has is.1 in
      (n ∷ insert numbers place number, ((first, sets), here, (is.0, r.0)), (number, r.1, p), ap (λ ns. n ∷ ns) r.2)

  left_of : (place : ℕ) (row left : List ℕ) → IsIn (first, sets) row → (number : ℕ) → slice_get row (suc place) ≡ Some number → remove row (suc place) ≡ left → Has (get_or sets place 0) number × IsIn (first, remove sets place) left
  left_of place [] left is number there less = absurd is
  left_of place (n ∷ numbers) left is number there less =
      let {- without it -} r = without sets numbers place number is.1 there in
      (r.0, subst (IsIn (first, remove sets place)) less (is.0, r.1))

  module _ (P : ℕ → Type 0) (place : ℕ) (after : 0 < place) (within : place ≤ length sets) where
    again : suc (place - 1) ≡ place
    again = omega arith

    -- the product without its set there has what is left of it
    there : (number : ℕ) → Has (get_or sets (place - 1) 0) number → P number → (row : List ℕ) → IsIn (first, remove sets (place - 1)) row → IsLeftAt P products place at row
    there number has p row is =
        subst (λ k. IsLeftAt P products k at row) again (there_before P (place - 1) (omega arith) number has p row is)

    only : (row : List ℕ) → IsLeftAt P products place at row → ((number : ℕ) × Has (get_or sets (place - 1) 0) number × P number) × IsIn (first, remove sets (place - 1)) row
    only row left =
        let {- what it is left of -} r = left_of (place - 1) left.0 row (in_it left.0 left.1) left.2.0 (ap (slice_get left.0) again ∙ left.2.1) (ap (remove left.0) again ∙ left.3) in
        ((left.2.0, r.0, left.2.2), r.1)

    pub left_there : (number : ℕ) → Has (get_or sets (place - 1) 0) number → P number → (row : List ℕ) → IsIn (first, remove sets (place - 1)) row ↔ IsLeftAt P products place at row
    left_there number has p row = (there number has p row, λ left. (only row left).1)

    pub none_left : (((number : ℕ) × Has (get_or sets (place - 1) 0) number × P number) → ⊥) → (row : List ℕ) → ¬ IsLeftAt P products place at row
    none_left none row left = none (only row left).0

-- so far the products have just the rows for which Q holds at the places before this one
abbrev pub AreSoFar : List Product → (ℕ → List ℕ → Type 0) → ℕ → Type 0
AreSoFar products Q n = (row : List ℕ) → IsInOne products row ↔ ((at : ℕ) × (at < n) × Q at row)

pub so_far_none : (products : List Product) (Q : ℕ → List ℕ → Type 0) → products ≡ [] → AreSoFar products Q 0
so_far_none products Q none row =
    ((λ is. absurd (nothing is.0 is.1.0 (sym (ap (λ ps. slice_get ps is.0) none) ∙ is.1.1))), (λ is. absurd (omega (arith, is.1))))
  where
    nothing : (at : ℕ) (product : Product) → None ≡ Some product → ⊥
    nothing at product e = none-some product e

module _ (Q : ℕ → List ℕ → Type 0) (n : ℕ) where
  below : (row : List ℕ) → ((at : ℕ) × (at < n + 1) × Q at row) → ((at : ℕ) × (at < n) × Q at row) ⊎ Q n row
  below row is =
      ⊎_elim
      (λ same. inr (subst (λ k. Q k row) same is.2))
      (λ ne. inl (let lt = is.1 in (is.0, omega (arith, lt, ne), is.2)))
      (cases_eq is.0 n)

  pub so_far_more : (old new : List Product) (P : List ℕ → Type 0) → AreSoFar old Q n → HasWith P old new → ((row : List ℕ) → P row ↔ Q n row) → AreSoFar new Q (n + 1)
  so_far_more old new P so with_them same row = (
    (λ is.
        ⊎_elim
        (λ k. let {- one before -} b = (so row).0 k in let lt = b.1 in (b.0, omega (arith, lt), b.2))
        (λ p. (n, omega arith, (same row).0 p))
        ((with_them row).0 is)),
    (λ is. (with_them row).1 (⊎_elim (λ b. inl ((so row).1 b)) (λ q. inr ((same row).1 q)) (below row is))),
  )

  pub so_far_skip : (products : List Product) → AreSoFar products Q n → ((row : List ℕ) → ¬ Q n row) → AreSoFar products Q (n + 1)
  so_far_skip products so none row = (
    (λ is. let {- one before -} b = (so row).0 is in let lt = b.1 in (b.0, omega (arith, lt), b.2)),
    (λ is. (so row).1 (⊎_elim (λ b. b) (λ q. absurd (none row q)) (below row is))),
  )

module _ (others : List Product) (apart : AreApart others) (old : List Product) (at : ℕ) where
  -- the rest of one more is not there, if one number alone is left out
  pub left_apart : (place number : ℕ) → AreSoFar old (IsLeftAt (λ n. n ≡ number) others place) at → (row : List ℕ) → IsLeftAt (λ n. n ≡ number) others place at row → ¬ IsInOne old row
  left_apart place number so row is has =
      let {- what is left of one before -} b = (so row).0 has in
      let lt = b.1 in
      let again : b.2.0 ≡ is.0 = same_again b.2.0 is.0 place number (b.2.2.1 ∙ ap Some b.2.2.2) (is.2.1 ∙ ap Some is.2.2) (b.2.3 ∙ sym is.3) in
      let same : b.0 ≡ at = apart b.0 at is.0 (subst (IsInAt others b.0) again b.2.1) is.1 in
      absurd (omega (arith, lt, same))

-- all of them
module _ (others products : List Product) where
  pub all_left_of : (place number : ℕ) → AreSoFar products (IsLeftAt (λ n. n ≡ number) others place) (length others) → (row : List ℕ) → IsInOne products row ↔ IsLeftOf others place number row
  all_left_of place number so row = (
    (λ is. let {- where it is -} b = (so row).0 is in (b.2.0, (b.0, b.2.1), b.2.2.1 ∙ ap Some b.2.2.2, b.2.3)),
    (λ is. (so row).1 (is.1.0, slice_get_within others is.1.0 is.1.1.0 is.1.1.1, (is.0, is.1.1, (number, is.2, refl), is.3))),
  )

  module _ (place : ℕ) (marks : List Bool) where
    number_of_mark : (number : Option ℕ) → mark_of marks number ≡ true → (n : ℕ) × (number ≡ Some n) × (get_or marks n false ≡ true)
    number_of_mark None mark = absurd (true≢false (sym mark))
    number_of_mark (Some n) mark = (n, refl, mark)

    pub all_left : AreSoFar products (IsLeftAt (λ n. get_or marks n false ≡ true) others place) (length others) → (row : List ℕ) → IsInOne products row ↔ IsLeft others place marks row
    all_left so row = (
      (λ is. let {- where it is -} b = (so row).0 is in (b.2.0, (b.0, b.2.1), ap (mark_of marks) b.2.2.1 ∙ b.2.2.2, b.2.3)),
      (λ is. (so row).1 (is.1.0, slice_get_within others is.1.0 is.1.1.0 is.1.1.1, (is.0, is.1.1, number_of_mark (slice_get is.0 place) is.2, is.3))),
    )

    -- where one number alone is marked of those that they have
    pub one_left : (number : ℕ) → 0 < place → IsOneMarked others (place - 1) marks number → ((row : List ℕ) → IsInOne products row ↔ IsLeftOf others place number row) → (row : List ℕ) → IsInOne products row ↔ IsLeft others place marks row
    one_left number after one left row = (
      (λ is. let {- what it is left of -} l = (left row).0 is in (l.0, l.1, ap (mark_of marks) l.2 ∙ one.marked, l.3)),
      (λ is. (left row).1 (is.0, is.1, of_row is.0 is.1 (number_of_mark (slice_get is.0 place) is.2), is.3)),
    )
      where
        again : place ≡ suc (place - 1)
        again = omega arith

        of_row : (row : List ℕ) → IsInOne others row → ((n : ℕ) × (slice_get row place ≡ Some n) × (get_or marks n false ≡ true)) → slice_get row place ≡ Some number
        of_row row is m =
            m.1 ∙ ap Some (one.only is.0 m.0 is.1.0 is.1.1 (has_there is.1.0 row (place - 1) m.0 is.1.2 (ap (slice_get row) (sym again) ∙ m.1)) m.2)

-- the number alone that is found so far, of those that the set has and that are marked
abbrev pub IsFound : ℕ → List Bool → ℕ → Option ℕ → Type 0
IsFound all marks n None = (k : ℕ) → k < n → get_or marks k false ≡ true → Has all k → ⊥
IsFound all marks n (Some number) =
    (get_or marks number false ≡ true) × ((k : ℕ) → k < n → get_or marks k false ≡ true → Has all k → k ≡ number)

-- a word below 2 ^ 63 has every number of the second word
abbrev pub Covers : ℕ → ℕ → Type 0
Covers all set = all < 2 ^ 63 → (n : ℕ) → Has set n → Has all n

module _ (all set : ℕ) where
  -- a bit stays
  bit_left : (n : ℕ) → bit_at all n ≡ 1 → bit_at (bit_or all set) n ≡ 1
  bit_left n is = let lt = bit_at-lt set n in let e = bit_at_or all set n in omega (arith, is, lt, e)

  bit_right : (n : ℕ) → bit_at set n ≡ 1 → bit_at (bit_or all set) n ≡ 1
  bit_right n is = let lt = bit_at-lt all n in let e = bit_at_or all set n in omega (arith, is, lt, e)

  pub covers_left : Covers (bit_or all set) all
  unfolding Has
  covers_left lt n has =
      ⊎_elim
      (λ bits. inl (lt, bits.1, bit_left n bits.2))
      (λ alone. absurd (let le = le_or_l all set in omega (arith, lt, le, alone)))
      has

  pub covers_right : Covers (bit_or all set) set
  unfolding Has
  covers_right lt n has =
      ⊎_elim
      (λ bits. inl (lt, bits.1, bit_right n bits.2))
      (λ alone. absurd (let le = le_or_r all set in omega (arith, lt, le, alone)))
      has

  pub covers_still : (one : ℕ) → Covers all one → Covers (bit_or all set) one
  covers_still one covers lt n has = covers_left lt n (covers (let le = le_or_l all set in omega (arith, lt, le)) n has)

-- one word more
pub covers_more : (others : List Product) (place at all : ℕ) (sets : List ℕ) → ((product : Product) → slice_get others at ≡ Some product → sets ≡ product.1)
    → ((k : ℕ) (product : Product) → k < at → slice_get others k ≡ Some product → Covers all (get_or product.1 place 0))
    → (k : ℕ) (product : Product) → k < at + 1 → slice_get others k ≡ Some product → Covers (bit_or all (get_or sets place 0)) (get_or product.1 place 0)
covers_more others place at all sets here so k product lt there =
    ⊎_elim
    (λ same.
    subst (λ s. Covers (bit_or all (get_or sets place 0)) (get_or s place 0)) (here product (ap (slice_get others) (sym same) ∙ there)) (covers_right all (get_or sets place 0)))
    (λ ne. covers_still all (get_or sets place 0) (get_or product.1 place 0) (so k product (omega (arith, lt, ne)) there))
    (cases_eq k at)

marks_within : (marks : List Bool) (n : ℕ) → get_or marks n false ≡ true → n < length marks
marks_within [] n is = absurd (true≢false (sym is))
marks_within (m ∷ marks) zero is = omega arith
marks_within (m ∷ marks) (suc n) is = let lt = marks_within marks n is in omega (arith, lt)

pub one_found : (others : List Product) (place all : ℕ) (marks : List Bool) (found : Option ℕ) → all < 2 ^ 63
    → ((at : ℕ) (product : Product) → at < length others → slice_get others at ≡ Some product → Covers all (get_or product.1 place 0))
    → IsFound all marks (length marks) found → IfSome found (IsOneMarked others place marks)
one_found others place all marks None lt covers found = tt
one_found others place all marks (Some number) lt covers found = record {
  marked = found.0;
  only = λ at n product here has mark.
      found.1 n (marks_within marks n mark) mark (covers at product (slice_get_within others at product here) here lt n has);
}
