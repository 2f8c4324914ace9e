-- rows of numbers as words
use Rattle.std.proofs.Common.{◌≡◌, ℕ, zero, suc, ◌+◌, ◌*◌, ◌^◌, ◌/◌, ◌%◌, ◌<◌, ◌≤◌, ◌-◌, ⊎_elim, List, [], ◌∷◌, ◌++◌, take, drop, length, get_or, set, refl, sym, ap, ◌∙◌, subst, arith, add-one, append_assoc}
use Rattle.std.proofs.Math.Nat.{add-mul-mod_self_left, mod-eq_of_lt, mod-lt, add-mul-div_left, div-eq_of_lt, mul-le-mul_left, mul-le-mul_right, pow-le-pow_right, pow-zero, pow-suc, mul-zero, mul_comm, mul-one, zero-mul, mod-le, zero-add, div-one, div-div-eq-div-mul, mod-one}
use Rattle.std.proofs.lemmas.Nat.{pow-add, pow_pos}
use Rattle.std.proofs.lemmas.Bool.{cases_eq}
use Rattle.std.proofs.lemmas.List.{drop_more, take_more_set, get_or-set_same, get_or-set_other, length-set, length-drop}
use Rattle.words.specs.Words.{IsWordOf, digits, value}

-- a power of a power
pub pow_of : (b k : ℕ) → (2 ^ b) ^ k ≡ 2 ^ (b * k)
pow_of b zero = pow-zero (2 ^ b) ∙ sym (pow-zero 2) ∙ ap (λ x. 2 ^ x) (sym (mul-zero b))
pow_of b (suc k) =
    let long : b * suc k ≡ b * k + b = grind arith in
    pow-suc (2 ^ b) k ∙ ap (λ x. x * 2 ^ b) (pow_of b k) ∙ sym (pow-add 2 (b * k) b) ∙ ap (λ x. 2 ^ x) (sym long)

pub length-digits : (base n word : ℕ) → length (digits base n word) ≡ n
length-digits base zero word = refl
length-digits base (suc n) word = ap suc (length-digits base n (word / base))

module _ (base : ℕ) (some : 0 < base) where
  -- each number is below the base
  abbrev pub AreBelow : List ℕ → Type 0
  AreBelow ds = (i : ℕ) → get_or ds i 0 < base

  pub below_none : AreBelow []
  below_none i = some

  pub below_more : (d : ℕ) (ds : List ℕ) → d < base → AreBelow ds → AreBelow (d ∷ ds)
  below_more d ds lt below zero = lt
  below_more d ds lt below (suc i) = below i

  pub below_digits : (n word : ℕ) → AreBelow (digits base n word)
  below_digits zero word = below_none
  below_digits (suc n) word = below_more (word % base) (digits base n (word / base)) (mod-lt word some) (below_digits n (word / base))

  pub below_set : (ds : List ℕ) (k s : ℕ) → k < length ds → s < base → AreBelow ds → AreBelow (set ds k s)
  below_set ds k s lt less below i =
      ⊎_elim
      (λ q. subst (λ x. x < base) (sym (ap (λ j. get_or (set ds k s) j 0) q ∙ get_or-set_same ds k s 0 lt)) less)
      (λ ne. subst (λ x. x < base) (sym (get_or-set_other ds k i s 0 ne)) (below i))
      (cases_eq i k)

  pub value_lt : (ds : List ℕ) → AreBelow ds → value base ds < base ^ length ds
  value_lt [] below = let one : base ^ 0 ≡ 1 = pow-zero base in omega (arith, one)
  value_lt (d ∷ ds) below =
      let rest = value_lt ds (λ i. below (suc i)) in
      let first : d < base = below 0 in
      let more : base * (value base ds + 1) ≤ base * base ^ length ds = mul-le-mul_left base (omega (arith, rest)) in
      let one : base * (value base ds + 1) ≡ base * value base ds + base = grind arith in
      let all : base ^ suc (length ds) ≡ base * base ^ length ds = pow-suc base (length ds) ∙ mul_comm (base ^ length ds) base in
      omega (arith, first, more, one, all)

  pub digits_value : (ds : List ℕ) → AreBelow ds → digits base (length ds) (value base ds) ≡ ds
  digits_value [] below = refl
  digits_value (d ∷ ds) below =
      let first : (d + base * value base ds) % base ≡ d = add-mul-mod_self_left d base (value base ds) ∙ mod-eq_of_lt (below 0) in
      let rest : (d + base * value base ds) / base ≡ value base ds = add-mul-div_left d (value base ds) some ∙ ap (λ x. x + value base ds) (div-eq_of_lt (below 0)) ∙ zero-add (value base ds) in
      λ i. first i ∷ (ap (digits base (length ds)) rest ∙ digits_value ds (λ j. below (suc j))) i

  pub is_word : (ds : List ℕ) (word : ℕ) → AreBelow ds → word ≡ value base ds → IsWordOf base ds word
  is_word ds word below is = (sym is, ap (digits base (length ds)) is ∙ digits_value ds below)

swap_first : (s d v p : ℕ) → p ≡ 1 → s + v + d * p ≡ d + v + s * p
swap_first s d v p one = subst (λ q. s + v + d * q ≡ d + v + s * q) (sym one) (let a : d * 1 ≡ d = grind arith in let b : s * 1 ≡ s = grind arith in omega (arith, a, b))

rest_swapped : (base d w x v s p q : ℕ) → q ≡ base * p → w + x * p ≡ v + s * p → d + base * w + x * q ≡ d + base * v + s * q
rest_swapped base d w x v s p q is e =
    let left : d + base * w + x * (base * p) ≡ d + base * (w + x * p) = grind arith in
    let right : d + base * v + s * (base * p) ≡ d + base * (v + s * p) = grind arith in
    subst (λ r. d + base * w + x * r ≡ d + base * v + s * r) (sym is) (left ∙ ap (λ r. d + base * r) e ∙ sym right)

pub value-set : (base : ℕ) (ds : List ℕ) (k s : ℕ) → k < length ds → value base (set ds k s) + get_or ds k 0 * base ^ k ≡ value base ds + s * base ^ k
value-set base [] k s lt = absurd (omega (arith, lt))
value-set base (d ∷ ds) zero s lt = let one : base ^ 0 ≡ 1 = pow-zero base in swap_first s d (base * value base ds) (base ^ 0) one
value-set base (d ∷ ds) (suc k) s lt =
    let rest = value-set base ds k s (omega (arith, lt)) in
    rest_swapped base d (value base (set ds k s)) (get_or ds k 0) (value base ds) s (base ^ k) (base ^ suc k) (pow-suc base k ∙ mul_comm (base ^ k) base) rest

-- a word is long enough
module _ (bits long : ℕ) (room : bits * long ≤ 128) where
  pub pow_fits : (n : ℕ) → n ≤ long → (2 ^ bits) ^ n ≤ 2 ^ 128
  pow_fits n le =
      let less : bits * n ≤ bits * long = mul-le-mul_left bits le in
      let within : bits * n ≤ 128 = omega (arith, room, less) in
      let two : 0 < 2 = omega arith in
      subst (λ x. x ≤ 2 ^ 128) (sym (pow_of bits n)) (pow-le-pow_right two within)

  -- one number more in front
  pub one_fits : (word number at : ℕ) → word < (2 ^ bits) ^ at → number < 2 ^ bits → at + 1 ≤ long → word * 2 ^ bits + number < 2 ^ 128
  one_fits word number at lt less le =
      let fits = pow_fits (at + 1) le in
      let pow : (2 ^ bits) ^ (at + 1) ≡ (2 ^ bits) ^ at * 2 ^ bits = ap (λ n. (2 ^ bits) ^ n) (add-one at) ∙ pow-suc (2 ^ bits) at in
      let more : (word + 1) * 2 ^ bits ≤ (2 ^ bits) ^ at * 2 ^ bits = mul-le-mul_right (2 ^ bits) (omega (arith, lt)) in
      let one : (word + 1) * 2 ^ bits ≡ word * 2 ^ bits + 2 ^ bits = grind arith in
      omega (arith, fits, pow, more, one, less)

-- the numbers before a place are read, and the others are in the rest of the word
pub record AreRead (base word all place rest : ℕ) (row : List ℕ) : Type 0 where
  pub long : length row ≡ all
  pub left : take place row ++ digits base (all - place) rest ≡ digits base all word

pub read_next : (base word all place rest number now : ℕ) (row : List ℕ) → AreRead base word all place rest row → place < all → number ≡ rest % base → now ≡ rest / base
    → AreRead base word all (place + 1) now (set row place number)
read_next base word all place rest number now row so lt is next = record {
  long = length-set row place number ∙ so.long;
  left =
      let one : all - place ≡ suc (all - (place + 1)) = omega (arith, lt) in
      (λ i. (take_more_set row place number (omega (arith, so.long)) ∙ ap (λ (x : ℕ). take place row ++ x ∷ []) is) i ++ digits base (all - (place + 1)) (next i))
      ∙ append_assoc (take place row) (rest % base ∷ []) (digits base (all - (place + 1)) (rest / base)) ∙ ap (λ n. take place row ++ digits base n rest) (sym one) ∙ so.left;
}

-- numbers that are packed, from the last to the first
module _ (base : ℕ) (some : 0 < base) (row : List ℕ) (at number : ℕ) (lt : at < length row) (here : number ≡ get_or row (length row - 1 - at) number) where
  one_more : drop (length row - (at + 1)) row ≡ number ∷ drop (length row - at) row
  one_more =
      let place : length row - (at + 1) ≡ length row - 1 - at = omega (arith, lt) in
      let after : length row - 1 - at + 1 ≡ length row - at = omega (arith, lt) in
      ap (λ n. drop n row) place ∙ drop_more row (length row - 1 - at) number (omega (arith, lt)) ∙ (λ i. sym here i ∷ drop (after i) row)

  pub packed_more : (word now : ℕ) → word ≡ value base (drop (length row - at) row) → now ≡ word * base + number → now ≡ value base (drop (length row - (at + 1)) row)
  packed_more word now is next =
      let turned : word * base + number ≡ number + base * word = grind arith in
      next ∙ turned ∙ ap (λ v. number + base * v) is ∙ sym (ap (value base) one_more)

  pub below_one_more : number < base → AreBelow base some (drop (length row - at) row) → AreBelow base some (drop (length row - (at + 1)) row)
  below_one_more less below = subst (AreBelow base some) (sym one_more) (below_more base some number (drop (length row - at) row) less below)

pub packed_lt : (base : ℕ) (some : 0 < base) (row : List ℕ) (at word : ℕ) → at ≤ length row → word ≡ value base (drop (length row - at) row) → AreBelow base some (drop (length row - at) row) → word < base ^ at
packed_lt base some row at word le is below =
    let long : length (drop (length row - at) row) ≡ at = length-drop (length row - at) row ∙ omega (arith, le) in
    subst (λ n. word < base ^ n) long (subst (λ w. w < base ^ length (drop (length row - at) row)) (sym is) (value_lt base some (drop (length row - at) row) below))

-- two numbers of a word are changed
module _ (bits long word to at slot : ℕ) (some : 0 < bits) (room : bits * long ≤ 128) (exact : value (2 ^ bits) (digits (2 ^ bits) long word) ≡ word) (to_less : to < 2 ^ bits) (after : 0 < at) (within : at < long)
    (zero_there : get_or (digits (2 ^ bits) long word) at 0 ≡ 0) (slot_less : slot < 2 ^ bits) where
  abbrev old : List ℕ
  old = digits (2 ^ bits) long word

  abbrev row : List ℕ
  row = set (set old 0 to) at slot

  long_old : length old ≡ long
  long_old = length-digits (2 ^ bits) long word

  long_row : length row ≡ long
  long_row = length-set (set old 0 to) at slot ∙ length-set old 0 to ∙ long_old

  below : AreBelow (2 ^ bits) (pow_pos bits) row
  below =
      let l = long_old in
      let m : length (set old 0 to) ≡ length old = length-set old 0 to in
      below_set (2 ^ bits) (pow_pos bits) (set old 0 to) at slot (omega (arith, l, m, within)) slot_less
      (below_set (2 ^ bits) (pow_pos bits) old 0 to (omega (arith, l, within)) to_less (below_digits (2 ^ bits) (pow_pos bits) long word))

  first : get_or old 0 0 ≡ word % 2 ^ bits
  first = first_digit long within
    where
      first_digit : (n : ℕ) → at < n → get_or (digits (2 ^ bits) n word) 0 0 ≡ word % 2 ^ bits
      first_digit zero lt = absurd (omega (arith, lt))
      first_digit (suc n) lt = refl

  pub row_value : value (2 ^ bits) row ≡ word - word % 2 ^ bits + to + slot * (2 ^ bits) ^ at
  row_value =
      let l = long_old in
      let m : length (set old 0 to) ≡ length old = length-set old 0 to in
      let one = value-set (2 ^ bits) old 0 to (omega (arith, l, within)) in
      let two = value-set (2 ^ bits) (set old 0 to) at slot (omega (arith, l, m, within)) in
      let zero' : get_or (set old 0 to) at 0 ≡ 0 = get_or-set_other old 0 at to 0 (λ q. omega (arith, after, q)) ∙ zero_there in
      values (value (2 ^ bits) old) (value (2 ^ bits) (set old 0 to)) (value (2 ^ bits) row) word to slot (word % 2 ^ bits) ((2 ^ bits) ^ 0) ((2 ^ bits) ^ at) (get_or old 0 0) (get_or (set old 0 to) at 0)
      exact first zero' (pow-zero (2 ^ bits)) (mod-le word (2 ^ bits)) one two
    where
      values : (v0 v1 v2 word to slot r p q a b : ℕ) → v0 ≡ word → a ≡ r → b ≡ 0 → p ≡ 1 → r ≤ word → v1 + a * p ≡ v0 + to * p → v2 + b * q ≡ v1 + slot * q → v2 ≡ word - r + to + slot * q
      values v0 v1 v2 word to slot r p q a b e0 e1 e2 e3 le h k =
          let ap1 : a * p ≡ r = ap (λ x. a * x) e3 ∙ mul-one a ∙ e1 in
          let tp : to * p ≡ to = ap (λ x. to * x) e3 ∙ mul-one to in
          let bq : b * q ≡ 0 = ap (λ x. x * q) e2 ∙ zero-mul q in
          omega (arith, ap1, tp, bq, e0, h, k, le)

  pub row_lt : word - word % 2 ^ bits + to + slot * (2 ^ bits) ^ at < 2 ^ 128
  row_lt =
      let fits = pow_fits bits long room long within' in
      let lt = value_lt (2 ^ bits) (pow_pos bits) row below in
      let is : (2 ^ bits) ^ length row ≡ (2 ^ bits) ^ long = ap (λ n. (2 ^ bits) ^ n) long_row in
      let v = row_value in
      omega (arith, fits, lt, is, v)
    where
      within' : long ≤ long
      within' = omega arith

  pub row_word : (now : ℕ) → now ≡ word - word % 2 ^ bits + to + slot * (2 ^ bits) ^ at → IsWordOf (2 ^ bits) row now
  row_word now is = is_word (2 ^ bits) (pow_pos bits) row now below (is ∙ sym row_value)

-- a number that is shifted to its place
pub shifted_fits : (bits at number : ℕ) → number < 2 ^ bits → bits * (at + 1) ≤ 128 → number * 2 ^ (bits * at) < 2 ^ 128
shifted_fits bits at number lt room =
    let long : bits * (at + 1) ≡ bits * at + bits = grind arith in
    let pow : 2 ^ (bits * at + bits) ≡ 2 ^ (bits * at) * 2 ^ bits = pow-add 2 (bits * at) bits in
    let within : bits * at + bits ≤ 128 = omega (arith, room, long) in
    let two : 0 < 2 = omega arith in
    let le : 2 ^ (bits * at + bits) ≤ 2 ^ 128 = pow-le-pow_right two within in
    let more : (number + 1) * 2 ^ (bits * at) ≤ 2 ^ bits * 2 ^ (bits * at) = mul-le-mul_right (2 ^ (bits * at)) (omega (arith, lt)) in
    let one : (number + 1) * 2 ^ (bits * at) ≡ number * 2 ^ (bits * at) + 2 ^ (bits * at) = grind arith in
    let turned : 2 ^ bits * 2 ^ (bits * at) ≡ 2 ^ (bits * at) * 2 ^ bits = mul_comm (2 ^ bits) (2 ^ (bits * at)) in
    let some = pow_pos (bits * at) in
    omega (arith, pow, le, more, one, turned, some)

-- one number of a word
pub digit_at : (base n w p : ℕ) → p < n → get_or (digits base n w) p 0 ≡ w / base ^ p % base
digit_at base zero w p lt = absurd (omega (arith, lt))
digit_at base (suc n) w zero lt = ap (λ x. x % base) (sym (ap (λ x. w / x) (pow-zero base) ∙ div-one w))
digit_at base (suc n) w (suc p) lt =
    digit_at base n (w / base) p (omega (arith, lt))
    ∙ ap (λ x. x % base) (div-div-eq-div-mul w base (base ^ p) ∙ ap (λ x. w / x) (sym (pow-suc base p ∙ mul_comm (base ^ p) base)))

pub no_digit : (base n w p : ℕ) → n ≤ p → get_or (digits base n w) p 0 ≡ 0
no_digit base zero w p le = refl
no_digit base (suc n) w zero le = absurd (omega (arith, le))
no_digit base (suc n) w (suc p) le = no_digit base n (w / base) p (omega (arith, le))

-- where each is of no bits
pub digit_none : (n w p : ℕ) → get_or (digits 1 n w) p 0 ≡ 0
digit_none zero w p = refl
digit_none (suc n) w zero = mod-one w
digit_none (suc n) w (suc p) = digit_none n (w / 1) p
