-- the rows of sets, one for each place
use Rattle.std.proofs.Common.{◌≡◌, ◌≢◌, ◌⊎◌, ◌↔◌, inl, inr, ⊎_elim, ℕ, zero, suc, ◌+◌, ◌-◌, ◌*◌, ◌^◌, ◌<◌, ◌≤◌, min, List, [], ◌∷◌, ◌++◌, map, length, get_or, set, take, length-append, length-set, get_or-set_same, get_or-set_other, refl, sym, ap, ◌∙◌, subst, arith, mul_assoc, mul-le-mul_right}
use Rattle.std.proofs.Math.Nat.{mul-le-mul_left}
use Rattle.std.specs.List.{Contains}
use Rattle.std.proofs.lemmas.Bool.{cases_eq, cases_lt}
use Rattle.std.proofs.lemmas.List.{length-map, take_more}
use Rattle.std.proofs.lemmas.List.Elements.{Contains-append_left, Contains-append_right, Contains-append_cases}
use Rattle.rows.proofs.Elements.{Contains-nil, Contains-head, Contains-cons_cases, to_map, from_map}
use Rattle.products.specs.Products.{Has, numbers_of, AreIn, rows_of_sets}
use Rattle.products.proofs.Lists.{Once, pairwise_weaker, once_append, once_map, to_flat_map, from_flat_map, once_flat_map, length_pieces, same_length}
use Rattle.products.proofs.Numbers.{contains_numbers, numbers_once, has_nothing}

-- ---- a row of the sets, place by place

pub are_in_long : (sets row : List ℕ) → AreIn sets row → length sets ≡ length row
are_in_long [] [] h = refl
are_in_long [] (number ∷ row) h = absurd h
are_in_long (s ∷ sets) [] h = absurd h
are_in_long (s ∷ sets) (number ∷ row) h = ap suc (are_in_long sets row h.1)

pub are_in_at : (sets row : List ℕ) (k : ℕ) → k < length sets → AreIn sets row → Has (get_or sets k 0) (get_or row k 0)
are_in_at [] row k lt h = absurd (omega arith)
are_in_at (s ∷ sets) [] k lt h = absurd h
are_in_at (s ∷ sets) (number ∷ row) zero lt h = h.0
are_in_at (s ∷ sets) (number ∷ row) (suc k) lt h = are_in_at sets row k (omega arith) h.1

pub are_in_from : (sets row : List ℕ) → length sets ≡ length row → ((k : ℕ) → k < length sets → Has (get_or sets k 0) (get_or row k 0)) → AreIn sets row
are_in_from [] [] long each = tt
are_in_from [] (number ∷ row) long each = absurd (omega arith)
are_in_from (s ∷ sets) [] long each = absurd (omega arith)
are_in_from (s ∷ sets) (number ∷ row) long each =
    (each 0 (omega arith), are_in_from sets row (omega arith) (λ k lt. each (suc k) (omega arith)))

-- ---- the list of all rows

-- the rows of these sets with that number before
after : List ℕ → ℕ → List (List ℕ)
after sets number = map (λ row. number ∷ row) (rows_of_sets sets)

from_rows : (sets row : List ℕ) → Contains (rows_of_sets sets) row → AreIn sets row
unfolding after
from_rows [] row h =
    ⊎_elim (λ e. subst (AreIn []) e tt) (λ k. absurd (Contains-nil row k)) (Contains-cons_cases [] [] row h)
from_rows (s ∷ sets) row h =
    let r = from_flat_map (after sets) (numbers_of s) row h in
    let m = from_map (λ rest. r.0 ∷ rest) (rows_of_sets sets) row r.2 in
    subst (AreIn (s ∷ sets)) m.2 ((contains_numbers s r.0).0 r.1, from_rows sets m.0 m.1)

to_rows : (sets row : List ℕ) → AreIn sets row → Contains (rows_of_sets sets) row
unfolding after
to_rows [] [] h = Contains-head [] []
to_rows [] (number ∷ row) h = absurd h
to_rows (s ∷ sets) [] h = absurd h
to_rows (s ∷ sets) (number ∷ row) h =
    to_flat_map (after sets) (numbers_of s) number (number ∷ row) ((contains_numbers s number).1 h.0)
    (to_map (λ rest. number ∷ rest) (rows_of_sets sets) row (to_rows sets row h.1))

pub contains_rows : (sets row : List ℕ) → Contains (rows_of_sets sets) row ↔ AreIn sets row
contains_rows sets row = (from_rows sets row, to_rows sets row)

-- rows with another number before are other rows
apart_by_first : (rows : List (List ℕ)) (x y : ℕ) → x ≢ y → (row : List ℕ) → Contains (map (λ rest. x ∷ rest) rows) row → Contains (map (λ rest. y ∷ rest) rows) row → ⊥
apart_by_first rows x y other row h k =
    let a = from_map (λ rest. x ∷ rest) rows row h in
    let b = from_map (λ rest. y ∷ rest) rows row k in
    other (heads x y a.0 b.0 (a.2 ∙ sym b.2))
  where
    heads : (m n : ℕ) (p q : List ℕ) → m ∷ p ≡ n ∷ q → m ≡ n
    heads m n p q e = cc

rests : (m : ℕ) (p q : List ℕ) → m ∷ p ≡ m ∷ q → p ≡ q
rests m p q e = cc

pub rows_once : (sets : List ℕ) → Once (rows_of_sets sets)
unfolding after
rows_once [] = (λ row h. absurd (Contains-nil row h), tt)
rows_once (s ∷ sets) =
    once_flat_map (after sets) (numbers_of s)
    (λ n h. once_map (λ row. n ∷ row) (rests n) (rows_of_sets sets) (rows_once sets))
    (pairwise_weaker _ _ (λ x y. apart_by_first (rows_of_sets sets) x y) (numbers_of s) (numbers_once s))

-- ---- how many rows there are

pub length_rows : (s : ℕ) (sets : List ℕ) → length (rows_of_sets (s ∷ sets)) ≡ length (numbers_of s) * length (rows_of_sets sets)
unfolding after
length_rows s sets =
    length_pieces (after sets) (length (rows_of_sets sets)) (λ n. length-map (rows_of_sets sets) (λ row. n ∷ row)) (numbers_of s)

pub length_rows_push : (sets : List ℕ) (s : ℕ) → length (rows_of_sets (sets ++ s ∷ [])) ≡ length (rows_of_sets sets) * length (numbers_of s)
length_rows_push [] s = length_rows s [] ∙ omega arith
length_rows_push (t ∷ sets) s =
    length_rows t (sets ++ s ∷ []) ∙ ap (λ n. length (numbers_of t) * n) (length_rows_push sets s)
    ∙ sym (mul_assoc (length (numbers_of t)) (length (rows_of_sets sets)) (length (numbers_of s))) ∙ ap (λ n. n * length (numbers_of s)) (sym (length_rows t sets))

-- the set of the rows of two sets without a common row has the sum of their sizes
pub length_rows_joined : (sets others both : List ℕ) → ((row : List ℕ) → AreIn both row ↔ (AreIn others row ⊎ AreIn sets row)) → ((row : List ℕ) → AreIn sets row → ¬ AreIn others row) → length (rows_of_sets both) ≡ length (rows_of_sets others) + length (rows_of_sets sets)
length_rows_joined sets others both joined apart =
    same_length (rows_of_sets both) (rows_of_sets others ++ rows_of_sets sets) (rows_once both)
    (once_append (rows_of_sets others) (rows_of_sets sets) (rows_once others) (rows_once sets) (λ row h k. apart row (from_rows sets row k) (from_rows others row h)))
    (λ row h.
    ⊎_elim
    (λ k. Contains-append_left (rows_of_sets others) (rows_of_sets sets) row (to_rows others row k))
    (λ k. Contains-append_right (rows_of_sets others) (rows_of_sets sets) row (to_rows sets row k))
    ((joined row).0 (from_rows both row h)))
    (λ row h.
    to_rows both row ((joined row).1 (⊎_elim (λ k. inl (from_rows others row k)) (λ k. inr (from_rows sets row k)) (Contains-append_cases (rows_of_sets others) (rows_of_sets sets) row h))
    ))
    ∙ length-append (rows_of_sets others) (rows_of_sets sets)

-- ---- two lists of sets

-- no row is in both where they have no number in common at one place
pub apart_at : (sets others : List ℕ) (place both : ℕ) → length sets ≡ length others → place < length sets → both ≡ 0
    → ((n : ℕ) → Has both n ↔ (Has (get_or sets place 0) n × Has (get_or others place 0) n))
    → (row : List ℕ) → AreIn sets row → ¬ AreIn others row
apart_at sets others place both long lt none is row h k =
    has_nothing (get_or row place 0)
    (subst (λ word. Has word (get_or row place 0)) none
    ((is (get_or row place 0)).1 (are_in_at sets row place lt h, are_in_at others row place (omega arith) k)))

-- each row is in the others where each number of each place is
pub inside_each : (sets others : List ℕ) → length sets ≡ length others → ((k n : ℕ) → k < length sets → Has (get_or sets k 0) n → Has (get_or others k 0) n) → (row : List ℕ) → AreIn sets row → AreIn others row
inside_each sets others long each row h =
    let l = are_in_long sets row h in
    are_in_from others row (omega arith) (λ k lt. let lt2 : k < length sets = omega arith in each k (get_or row k 0) lt2 (are_in_at sets row k lt2 h))

-- one place with the numbers that either has there, and the same at all others
pub joined_rows : (sets others : List ℕ) (at both : ℕ) → length sets ≡ length others → at < length others → ((k : ℕ) → k < length sets → k ≢ at → get_or sets k 0 ≡ get_or others k 0)
    → ((n : ℕ) → Has both n ↔ (Has (get_or sets at 0) n ⊎ Has (get_or others at 0) n))
    → (row : List ℕ) → AreIn (set others at both) row ↔ (AreIn others row ⊎ AreIn sets row)
joined_rows sets others at both long lt same is row =
    let n = get_or row at 0 in
    let l = length-set others at both in
    let here : get_or (set others at both) at 0 ≡ both = get_or-set_same others at both 0 lt in
    let there : (k : ℕ) → k ≢ at → get_or (set others at both) k 0 ≡ get_or others k 0 = λ k other. get_or-set_other others at k both 0 other in (
      λ h.
          let m = are_in_long (set others at both) row h in
          ⊎_elim
          (λ g. inr (are_in_from sets row (omega arith) (λ k less.
          ⊎_elim
          (λ e. subst (λ p. Has (get_or sets p 0) (get_or row p 0)) (sym e) g)
          (λ other. subst (λ word. Has word (get_or row k 0)) (there k other ∙ sym (same k less other)) (are_in_at (set others at both) row k (omega arith) h))
          (cases_eq k at))))
          (λ g. inl (are_in_from others row (omega arith) (λ k less.
          ⊎_elim
          (λ e. subst (λ p. Has (get_or others p 0) (get_or row p 0)) (sym e) g)
          (λ other. subst (λ word. Has word (get_or row k 0)) (there k other) (are_in_at (set others at both) row k (omega arith) h))
          (cases_eq k at))))
          ((is n).0 (subst (λ word. Has word n) here (are_in_at (set others at both) row at (omega arith) h))),
      λ h.
          ⊎_elim
          (λ g.
          let m = are_in_long others row g in
          are_in_from (set others at both) row (omega arith) (λ k less.
          ⊎_elim
          (λ e. subst (λ p. Has (get_or (set others at both) p 0) (get_or row p 0)) (sym e) (subst (λ word. Has word n) (sym here) ((is n).1 (inr (are_in_at others row at lt g)))))
          (λ other. subst (λ word. Has word (get_or row k 0)) (sym (there k other)) (are_in_at others row k (omega arith) g))
          (cases_eq k at)))
          (λ g.
          let m = are_in_long sets row g in
          are_in_from (set others at both) row (omega arith) (λ k less.
          let within : k < length sets = omega arith in
          ⊎_elim
          (λ e. subst (λ p. Has (get_or (set others at both) p 0) (get_or row p 0)) (sym e) (subst (λ word. Has word n) (sym here) ((is n).1 (inl (are_in_at sets row at (omega arith) g)))))
          (λ other. subst (λ word. Has word (get_or row k 0)) (same k within other ∙ sym (there k other)) (are_in_at sets row k within g))
          (cases_eq k at)))
          h,
    )

-- a product that is held at a bound stays right at that bound
held : (bound rows some : ℕ) → min (min rows bound * some) bound ≡ min (rows * some) bound
held bound rows zero = omega arith
held bound rows (suc some) =
    ⊎_elim
    (λ lt. ap (λ n. min (n * suc some) bound) (let is : min rows bound ≡ rows = omega arith in is))
    (λ le.
    let is : min rows bound ≡ bound = omega arith in
    let more : bound * 1 ≤ bound * suc some = mul-le-mul_left bound (let one : 1 ≤ suc some = omega arith in one) in
    let over : bound * suc some ≤ rows * suc some = mul-le-mul_right (suc some) le in
    ap (λ n. min (n * suc some) bound) is ∙ omega arith)
    (cases_lt rows bound)

-- one place more
pub rows_held : (sets : List ℕ) (place rows some after : ℕ) → place < length sets → rows ≡ min (length (rows_of_sets (take place sets))) (2 ^ 64 - 1) → some ≡ length (numbers_of (get_or sets place 0))
    → after ≡ min (rows * some) (2 ^ 64 - 1) → after ≡ min (length (rows_of_sets (take (place + 1) sets))) (2 ^ 64 - 1)
rows_held sets place rows some after lt so_far size is =
    let s = get_or sets place 0 in
    is ∙ ap (λ n. min (n * some) (2 ^ 64 - 1)) so_far
    ∙ held (2 ^ 64 - 1) (length (rows_of_sets (take place sets))) some
    ∙ ap (λ n. min (length (rows_of_sets (take place sets)) * n) (2 ^ 64 - 1)) size
    ∙ ap (λ n. min n (2 ^ 64 - 1)) (sym (length_rows_push (take place sets) s))
    ∙ ap (λ xs. min (length (rows_of_sets xs)) (2 ^ 64 - 1)) (sym (take_more sets place 0 lt))
