-- the sum of a set, as members come
use Rattle.std.proofs.Common.{◌≡◌, ℕ, ◌+◌, ◌-◌, ◌<◌, ◌≤◌, ◌%◌, ◌^◌, ℤ, List, [], ◌∷◌, ◌++◌, get_or, length, refl, sym, ap, ◌∙◌, subst, arith, Result, Ok, Err, IfOk}
use Rattle.std.specs.Prelude.{zero, suc}
use Rattle.std.proofs.Math.Nat.{mod-add-mod, add-mod_right, mod-eq_of_lt, mod-lt}
use Rattle.std.specs.List.{insert, remove}
use Rattle.values.specs.Sums.{mixed, sum_of}

pub sum_of-none : sum_of [] ≡ 0
unfolding sum_of
sum_of-none = refl

pub sum_of-first : (x : ℤ) (xs : List ℤ) → sum_of (x ∷ xs) ≡ (sum_of xs + mixed x) % 2 ^ 128
unfolding sum_of
sum_of-first x xs = refl

-- numbers are added in any order
later : (s a b : ℕ) → ((s + a) % 2 ^ 128 + b) % 2 ^ 128 ≡ ((s + b) % 2 ^ 128 + a) % 2 ^ 128
later s a b =
    mod-add-mod (s + a) (2 ^ 128) b ∙ ap (λ (n : ℕ). n % 2 ^ 128) (let e : (s + a) + b ≡ (s + b) + a = omega arith in e) ∙ sym (mod-add-mod (s + b) (2 ^ 128) a)

-- one more member, wherever it is put
pub sum_of-insert : (xs : List ℤ) (at : ℕ) (v : ℤ) → at ≤ length xs → sum_of (insert xs at v) ≡ (sum_of xs + mixed v) % 2 ^ 128
sum_of-insert xs zero v fits = sum_of-first v xs
sum_of-insert [] (suc at) v fits = absurd (omega arith)
sum_of-insert (x ∷ xs) (suc at) v fits =
    sum_of-first x (insert xs at v) ∙ ap (λ n. (n + mixed x) % 2 ^ 128) (sum_of-insert xs at v (omega arith)) ∙ later (sum_of xs) (mixed v) (mixed x)
    ∙ ap (λ n. (n + mixed v) % 2 ^ 128) (sym (sum_of-first x xs))

pub sum_of-push : (xs : List ℤ) (v : ℤ) → sum_of (xs ++ v ∷ []) ≡ (sum_of xs + mixed v) % 2 ^ 128
sum_of-push [] v = sum_of-first v []
sum_of-push (x ∷ xs) v =
    sum_of-first x (xs ++ v ∷ []) ∙ ap (λ n. (n + mixed x) % 2 ^ 128) (sum_of-push xs v) ∙ later (sum_of xs) (mixed v) (mixed x)
    ∙ ap (λ n. (n + mixed v) % 2 ^ 128) (sym (sum_of-first x xs))

pub sum_of-between : (xs ys : List ℤ) (v : ℤ) → sum_of (xs ++ v ∷ ys) ≡ (sum_of (xs ++ ys) + mixed v) % 2 ^ 128
sum_of-between [] ys v = sum_of-first v ys
sum_of-between (x ∷ xs) ys v =
    sum_of-first x (xs ++ v ∷ ys) ∙ ap (λ n. (n + mixed x) % 2 ^ 128) (sum_of-between xs ys v) ∙ later (sum_of (xs ++ ys)) (mixed v) (mixed x)
    ∙ ap (λ n. (n + mixed v) % 2 ^ 128) (sym (sum_of-first x (xs ++ ys)))

-- a fact about an answer holds for an equal one
pub if_ok : {E : Type 0} (r : Result (List ℤ) E) (P : List ℤ → Type 0) (xs : List ℤ) → IfOk r (λ set. set ≡ xs) → P xs → IfOk r P
if_ok (Ok set) P xs is p = subst P (sym is) p
if_ok (Err e) P xs is p = tt

-- one value less
pub sum_of-before : (xs : List ℤ) (at : ℕ) (d : ℤ) → at < length xs → sum_of xs ≡ (sum_of (remove xs at) + mixed (get_or xs at d)) % 2 ^ 128
sum_of-before [] at d fits = absurd (omega arith)
sum_of-before (x ∷ xs) zero d fits = sum_of-first x xs
sum_of-before (x ∷ xs) (suc at) d fits =
    sum_of-first x xs ∙ ap (λ n. (n + mixed x) % 2 ^ 128) (sum_of-before xs at d (omega arith)) ∙ later (sum_of (remove xs at)) (mixed (get_or xs at d)) (mixed x)
    ∙ ap (λ n. (n + mixed (get_or xs at d)) % 2 ^ 128) (sym (sum_of-first x (remove xs at)))

sum_of-below : (xs : List ℤ) → sum_of xs < 2 ^ 128
sum_of-below [] = let e = sum_of-none in omega (arith, e)
sum_of-below (x ∷ xs) = let e = sum_of-first x xs in let l : (sum_of xs + mixed x) % 2 ^ 128 < 2 ^ 128 = mod-lt (sum_of xs + mixed x) (omega arith) in omega (arith, e, l)

taken_off : (h w : ℕ) → h < 2 ^ 128 → w < 2 ^ 128 → ((h + w) % 2 ^ 128 + (2 ^ 128 - w)) % 2 ^ 128 ≡ h
taken_off h w below less =
    mod-add-mod (h + w) (2 ^ 128) (2 ^ 128 - w) ∙ ap (λ (n : ℕ). n % 2 ^ 128) (let e : h + w + (2 ^ 128 - w) ≡ h + 2 ^ 128 = omega (arith, less) in e)
    ∙ add-mod_right h (2 ^ 128) ∙ mod-eq_of_lt below

pub sum_of-remove : (xs : List ℤ) (at : ℕ) (d : ℤ) → at < length xs → mixed (get_or xs at d) < 2 ^ 128
    → (sum_of xs + (2 ^ 128 - mixed (get_or xs at d))) % 2 ^ 128 ≡ sum_of (remove xs at)
sum_of-remove xs at d fits less =
    ap (λ (n : ℕ). (n + (2 ^ 128 - mixed (get_or xs at d))) % 2 ^ 128) (sum_of-before xs at d fits)
    ∙ taken_off (sum_of (remove xs at)) (mixed (get_or xs at d)) (sum_of-below (remove xs at)) less
