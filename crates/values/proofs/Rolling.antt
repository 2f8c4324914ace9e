-- the sum of a queue's items, as they come and go
use Rattle.std.proofs.Common.{◌≡◌, ℕ, zero, suc, ◌+◌, ◌-◌, ◌*◌, ◌<◌, ◌%◌, ◌^◌, ℤ, pos, List, [], ◌∷◌, ◌++◌, get_or, length, drop, refl, sym, ap, ◌∙◌, arith, add-one, length-append}
use Rattle.std.specs.List.{insert}
use Rattle.std.proofs.lemmas.List.{take_all, drop_all}
use Rattle.std.proofs.Math.Nat.{mod-add-mod, add-mod-mod, add-mod_right, mod-eq_of_lt, mod-lt, add-mul, mul_assoc, mul_right_comm}
use Rattle.std.proofs.lemmas.Nat.{mul-mod_first, mul-mod_second}
use Rattle.values.specs.Sums.{mixed}
use Rattle.values.specs.Rolled.{ratio, back, power, rolled}

pub rolled-none : rolled [] ≡ 0
unfolding rolled
rolled-none = refl

pub rolled-first : (x : ℤ) (xs : List ℤ) → rolled (x ∷ xs) ≡ (rolled xs + power (length xs) * mixed x) % 2 ^ 128
unfolding rolled
rolled-first x xs = refl

pub power-none : power 0 ≡ 1
unfolding power
power-none = refl

pub power-next : (k : ℕ) → power (suc k) ≡ (power k * ratio) % 2 ^ 128
unfolding power
power-next k = refl

ratio_back : (ratio * back) % 2 ^ 128 ≡ 1
unfolding ratio back
ratio_back = refl

-- each item goes one place on
swapped : (a b c : ℕ) → a + b + c ≡ a + c + b
swapped a b c = omega arith

moved_on : (r w x v t m : ℕ) → ((r * t + v) % m + (w * t) % m * x) % m ≡ ((r + w * x) % m * t + v) % m
moved_on r w x v t m =
    mod-add-mod (r * t + v) m ((w * t) % m * x)
    ∙ sym (add-mod-mod (r * t + v) ((w * t) % m * x) m)
    ∙ ap (λ (n : ℕ). (r * t + v + n) % m) (mul-mod_first (w * t) x m)
    ∙ add-mod-mod (r * t + v) (w * t * x) m
    ∙ ap (λ (n : ℕ). (r * t + v + n) % m) (mul_right_comm w t x)
    ∙ ap (λ (n : ℕ). n % m) (swapped (r * t) v (w * x * t))
    ∙ ap (λ (n : ℕ). (n + v) % m) (sym (add-mul r (w * x) t))
    ∙ sym (mod-add-mod ((r + w * x) * t) m v)
    ∙ ap (λ (n : ℕ). (n + v) % m) (sym (mul-mod_first (r + w * x) t m))
    ∙ mod-add-mod ((r + w * x) % m * t) m v

pub rolled-push : (xs : List ℤ) (v : ℤ) → rolled (xs ++ v ∷ []) ≡ (rolled xs * ratio + mixed v) % 2 ^ 128
rolled-push [] v =
    rolled-first v [] ∙ ap (λ (n : ℕ). (n + power 0 * mixed v) % 2 ^ 128) rolled-none ∙ ap (λ (n : ℕ). (0 + n * mixed v) % 2 ^ 128) power-none
    ∙ ap (λ (n : ℕ). n % 2 ^ 128) (let e : 0 + 1 * mixed v ≡ 0 * ratio + mixed v = omega arith in e)
    ∙ ap (λ (n : ℕ). (n * ratio + mixed v) % 2 ^ 128) (sym rolled-none)
rolled-push (x ∷ xs) v =
    let k = length xs in
    let long : length (xs ++ v ∷ []) ≡ suc k = length-append xs (v ∷ []) ∙ add-one k in
    rolled-first x (xs ++ v ∷ [])
    ∙ ap (λ (n : ℕ). (n + power (length (xs ++ v ∷ [])) * mixed x) % 2 ^ 128) (rolled-push xs v)
    ∙ ap (λ (n : ℕ). ((rolled xs * ratio + mixed v) % 2 ^ 128 + n * mixed x) % 2 ^ 128) (ap power long ∙ power-next k)
    ∙ moved_on (rolled xs) (power k) (mixed x) (mixed v) ratio (2 ^ 128)
    ∙ ap (λ (n : ℕ). (n * ratio + mixed v) % 2 ^ 128) (sym (rolled-first x xs))

rolled-below : (xs : List ℤ) → rolled xs < 2 ^ 128
rolled-below [] = let e = rolled-none in omega (arith, e)
rolled-below (x ∷ xs) =
    let e = rolled-first x xs in
    let l : (rolled xs + power (length xs) * mixed x) % 2 ^ 128 < 2 ^ 128 = mod-lt (rolled xs + power (length xs) * mixed x) (omega arith) in
    omega (arith, e, l)

power-below : (k : ℕ) → power k < 2 ^ 128
power-below zero = let e = power-none in omega (arith, e)
power-below (suc k) =
    let e = power-next k in
    let l : (power k * ratio) % 2 ^ 128 < 2 ^ 128 = mod-lt (power k * ratio) (omega arith) in
    omega (arith, e, l)

-- one place less
pub power-before : (k : ℕ) → (power (suc k) * back) % 2 ^ 128 ≡ power k
power-before k =
    ap (λ (n : ℕ). (n * back) % 2 ^ 128) (power-next k) ∙ mul-mod_first (power k * ratio) back (2 ^ 128)
    ∙ ap (λ (n : ℕ). n % 2 ^ 128) (mul_assoc (power k) ratio back) ∙ sym (mul-mod_second (power k) (ratio * back) (2 ^ 128))
    ∙ ap (λ (n : ℕ). (power k * n) % 2 ^ 128) ratio_back ∙ ap (λ (n : ℕ). n % 2 ^ 128) (let e : power k * 1 ≡ power k = omega arith in e)
    ∙ mod-eq_of_lt (power-below k)

-- without the front one
taken_off : (h p m : ℕ) → h < m → ((h + p) % m + (m - p % m)) % m ≡ h
taken_off h p m below =
    let less : p % m < m = mod-lt p (omega arith) in
    ap (λ (n : ℕ). (n + (m - p % m)) % m) (sym (add-mod-mod h p m))
    ∙ mod-add-mod (h + p % m) m (m - p % m) ∙ ap (λ (n : ℕ). n % m) (let e : h + p % m + (m - p % m) ≡ h + m = omega (arith, less) in e)
    ∙ add-mod_right h m ∙ mod-eq_of_lt below

pub rolled-rest : (x : ℤ) (xs : List ℤ) → (rolled (x ∷ xs) + (2 ^ 128 - (power (length xs) * mixed x) % 2 ^ 128)) % 2 ^ 128 ≡ rolled xs
rolled-rest x xs =
    ap (λ (n : ℕ). (n + (2 ^ 128 - (power (length xs) * mixed x) % 2 ^ 128)) % 2 ^ 128) (rolled-first x xs)
    ∙ taken_off (rolled xs) (power (length xs) * mixed x) (2 ^ 128) (rolled-below xs)

-- one more at the end, and the front one with those behind it
pub insert-end : (xs : List ℤ) (n : ℕ) (v : ℤ) → n ≡ length xs → insert xs n v ≡ xs ++ v ∷ []
insert-end xs n v is =
    ap (λ l. l ++ v ∷ drop n xs) (take_all n xs (omega arith)) ∙ ap (λ l. xs ++ v ∷ l) (drop_all n xs (omega arith))

pub first_and_rest : (xs : List ℤ) → 0 < length xs → xs ≡ get_or xs 0 (pos 0) ∷ drop 1 xs
first_and_rest [] some = absurd (omega arith)
first_and_rest (x ∷ xs) some = refl
