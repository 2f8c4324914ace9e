-- sets of numbers in words: the numbers of a word, one after another
use Rattle.std.proofs.Common.{◌≡◌, ◌≢◌, ◌⊎◌, ◌↔◌, Bool, cond, List, [], ◌∷◌, length, IsTrue, nat_eq, nat_lt, count_ones, w64, div-lt_iff_lt-mul, mod-lt, pow_pos, inl, inr, ⊎_elim, ℕ, zero, suc, ◌+◌, ◌-◌, ◌*◌, ◌/◌, ◌%◌, ◌^◌, ◌<◌, ◌≤◌, refl, sym, ap, ◌∙◌, subst, arith}
use Rattle.std.proofs.Math.Nat.{pow-suc, div-add-mod'}
use Rattle.std.specs.Int.{bit_at}
use Rattle.std.specs.Int.Bits.{bit_and, bit_or}
use Rattle.std.proofs.lemmas.Bool.{cases_eq, cases_lt, eqb-true, eq-eqb, ltb-true, lt-ltb, le-ltb}
use Rattle.std.proofs.lemmas.Nat.{pow_below, one_shl, ones_le_self, and_le_l, or_lt}
use Rattle.std.proofs.lemmas.Nat.Bits.{bit_at_and, bit_at_or, bit_at_not, shr_and_one, bit_at-lt, bit_at-zero, bit_at_cat_low, bit_at-pow_same, bit_at-pow_other}
use Rattle.std.specs.List.{Contains, filter}
use Rattle.std.specs.Int.Count.{ones_step, ones_cat}
use Rattle.rows.proofs.Elements.{Contains-nil, Contains-head, Contains-tail, Contains-cons_cases}
use Rattle.products.specs.Products.{Has, below, numbers_of}
use Rattle.products.proofs.Lists.{Once, to_filter, from_filter, once_filter}

-- a word below the highest bit has the numbers below 63 whose bit is one
pub by_bits : (set n : ℕ) → set < 2 ^ 63 → Has set n ↔ ((n < 63) × (bit_at set n ≡ 1))
unfolding Has
by_bits set n lt = (λ h. ⊎_elim (λ b. (b.1, b.2)) (λ e. absurd (omega arith)) h, λ b. inl (lt, b.0, b.1))

-- any other word has one number alone
pub has_alone : (set n : ℕ) → 2 ^ 63 ≤ set → Has set n ↔ (set ≡ 2 ^ 63 + n)
unfolding Has
has_alone set n le = (λ h. ⊎_elim (λ b. let lt = b.0 in absurd (omega arith)) (λ e. e) h, inr)

-- the word zero has none
pub has_nothing : (n : ℕ) → ¬ Has 0 n
has_nothing n h =
    let b = ((by_bits 0 n (omega arith)).0 h).1 in
    let z = bit_at-zero n in
    omega arith

-- a word whose one bit is that of the number
pub has_power : (number : ℕ) → number < 63 → (n : ℕ) → Has (2 ^ number) n ↔ (n ≡ number)
has_power number lt n =
    let below = pow_below number 63 lt in (
      λ h. let b = ((by_bits (2 ^ number) n below).0 h).1 in ⊎_elim (λ e. e) (λ other. let z = bit_at-pow_other number n other in absurd (omega arith)) (cases_eq n number),
      λ e. (by_bits (2 ^ number) n below).1 (omega arith, ap (bit_at (2 ^ number)) e ∙ bit_at-pow_same number),
    )

-- the word 1 has zero alone
pub has_zero_alone : (n : ℕ) → Has 1 n ↔ (n ≡ 0)
has_zero_alone = has_power 0 (omega arith)

pub has_shifted : (number : ℕ) → number < 63 → (n : ℕ) → Has (1 * 2 ^ number % 2 ^ 64) n ↔ (n ≡ number)
has_shifted number lt n =
    subst (λ word. Has word n ↔ (n ≡ number)) (sym (one_shl number 64 (omega arith))) (has_power number lt n)

-- the highest bit, and a number
pub has_high : (number n : ℕ) → Has (2 ^ 63 + number) n ↔ (n ≡ number)
has_high number n =
    let h = has_alone (2 ^ 63 + number) n (omega arith) in (λ g. let e = h.0 g in omega arith, λ e. h.1 (omega arith))

-- a part of a word that is a set by bits
pub has_and : (set mask n : ℕ) → set < 2 ^ 63 → Has (bit_and set mask) n ↔ (Has set n × (bit_at mask n ≡ 1))
has_and set mask n lt =
    let less = and_le_l set mask in
    let both = by_bits (bit_and set mask) n (omega arith) in
    let one = by_bits set n lt in
    let bits = bit_at_and set mask n in
    let low = bit_at-lt set n in
    let low2 = bit_at-lt mask n in (
      λ h. let b = both.0 h in let e = b.1 in (one.1 (b.0, omega arith), omega arith),
      λ h. let b = one.0 h.0 in let e = b.1 in let f = h.1 in both.1 (b.0, omega arith),
    )

pub has_common : (set other n : ℕ) → set < 2 ^ 63 → other < 2 ^ 63 → Has (bit_and set other) n ↔ (Has set n × Has other n)
has_common set other n lt less =
    let both = has_and set other n lt in
    let one = by_bits other n less in (
      λ h. let b = both.0 h in (b.0, one.1 (((by_bits set n lt).0 b.0).0, b.1)),
      λ h. both.1 (h.0, (one.0 h.1).1),
    )

pub has_either : (set other n : ℕ) → set < 2 ^ 63 → other < 2 ^ 63 → Has (bit_or set other) n ↔ (Has set n ⊎ Has other n)
has_either set other n lt less =
    let both = by_bits (bit_or set other) n (or_lt 63 set other lt less) in
    let one = by_bits set n lt in
    let two = by_bits other n less in
    let bits = bit_at_or set other n in
    let low = bit_at-lt set n in
    let low2 = bit_at-lt other n in (
      λ h. let b = both.0 h in let e = b.1 in ⊎_elim (λ (is : bit_at set n ≡ 1). inl (one.1 (b.0, is))) (λ (no : bit_at set n ≢ 1). inr (two.1 (b.0, omega arith))) (cases_eq (bit_at set n) 1),
      λ h. ⊎_elim (λ g. let b = one.0 g in let e = b.1 in both.1 (b.0, omega arith)) (λ g. let b = two.0 g in let e = b.1 in both.1 (b.0, omega arith)) h,
    )

pub has_without : (set other n : ℕ) → set < 2 ^ 63 → other < 2 ^ 63 → Has (bit_and set (2 ^ 64 - 1 - other)) n ↔ (Has set n × ¬ Has other n)
has_without set other n lt less =
    let rest = 2 ^ 64 - 1 - other in
    let both = has_and set rest n lt in
    let one = by_bits other n less in
    let low = bit_at-lt other n in
    let flips : n < 63 → bit_at rest n ≡ 1 - bit_at other n = λ small. bit_at_not w64 other n (omega arith) (omega arith) in (
      λ h. let b = both.0 h in let e = b.1 in (b.0, λ g. let f = one.0 g in let small = f.0 in let is = f.1 in let flip = flips small in omega arith),
      λ h.
          let small = ((by_bits set n lt).0 h.0).0 in
          let flip = flips small in
          let zero_there : bit_at other n ≢ 1 = λ e. h.1 (one.1 (small, e)) in
          both.1 (h.0, omega arith),
    )

-- the same if the other has a number below 63 alone
pub has_cleared : (set other n : ℕ) → set < 2 ^ 63 → 2 ^ 63 ≤ other → other - 2 ^ 63 < 63
    → Has (bit_and set (2 ^ 64 - 1 - 1 * 2 ^ (other - 2 ^ 63) % 2 ^ 64)) n ↔ (Has set n × ¬ Has other n)
has_cleared set other n lt le small =
    let number = other - 2 ^ 63 in
    let power = has_power number small n in
    let alone = has_alone other n le in
    subst
    (λ word. Has (bit_and set (2 ^ 64 - 1 - word)) n ↔ (Has set n × ¬ Has other n))
    (sym (one_shl number 64 (omega arith)))
    (let rest = has_without set (2 ^ number) n lt (pow_below number 63 small) in (
      λ h. let r = rest.0 h in (r.0, λ g. let e = alone.0 g in r.1 (power.1 (omega arith))),
      λ h. rest.1 (h.0, λ g. let e = power.0 g in h.1 (alone.1 (omega arith))),
    ))

-- and if that number is not below 63
pub has_beyond : (set other n : ℕ) → set < 2 ^ 63 → 2 ^ 63 ≤ other → 63 ≤ other - 2 ^ 63 → Has set n ↔ (Has set n × ¬ Has other n)
has_beyond set other n lt le far = (
  λ h. (h, λ g. let small = ((by_bits set n lt).0 h).0 in let e = (has_alone other n le).0 g in omega arith),
  λ h. h.0,
)

-- ---- a word with one number alone, and any other word

only_one : (set other n : ℕ) → 2 ^ 63 ≤ set → Has set n → Has other n → Has other (set - 2 ^ 63)
only_one set other n le h g =
    let e = (has_alone set n le).0 h in
    subst (Has other) (let is : n ≡ set - 2 ^ 63 = omega arith in is) g

other_at : (set other n : ℕ) → 2 ^ 63 ≤ set → Has set n → Has other (set - 2 ^ 63) → Has other n
other_at set other n le h g =
    let e = (has_alone set n le).0 h in
    subst (Has other) (let is : set - 2 ^ 63 ≡ n = omega arith in is) g

module _ (set other : ℕ) (le : 2 ^ 63 ≤ set) where
  pub alone_inside : Has other (set - 2 ^ 63) → (n : ℕ) → Has set n ↔ (Has set n × Has other n)
  alone_inside there n = (λ h. (h, other_at set other n le h there), λ h. h.0)

  pub alone_inside_too : Has other (set - 2 ^ 63) → (n : ℕ) → Has set n ↔ (Has other n × Has set n)
  alone_inside_too there n = (λ h. (other_at set other n le h there, h), λ h. h.1)

  pub alone_apart : ¬ Has other (set - 2 ^ 63) → (n : ℕ) → Has 0 n ↔ (Has set n × Has other n)
  alone_apart away n = (λ h. absurd (has_nothing n h), λ h. absurd (away (only_one set other n le h.0 h.1)))

  pub alone_apart_too : ¬ Has other (set - 2 ^ 63) → (n : ℕ) → Has 0 n ↔ (Has other n × Has set n)
  alone_apart_too away n = (λ h. absurd (has_nothing n h), λ h. absurd (away (only_one set other n le h.1 h.0)))

  pub nothing_outside : Has other (set - 2 ^ 63) → (n : ℕ) → Has 0 n ↔ (Has set n × ¬ Has other n)
  nothing_outside there n = (λ h. absurd (has_nothing n h), λ h. absurd (h.1 (other_at set other n le h.0 there)))

  pub alone_outside : ¬ Has other (set - 2 ^ 63) → (n : ℕ) → Has set n ↔ (Has set n × ¬ Has other n)
  alone_outside away n = (λ h. (h, λ g. away (only_one set other n le h g)), λ h. h.0)

-- ---- the tests of `has`

pub test_bit : (set number : ℕ) → set < 2 ^ 63 → number < 63 → IsTrue (nat_eq (bit_and (set / 2 ^ number) 1) 1) ↔ Has set number
test_bit set number lt small =
    let bit = by_bits set number lt in
    let is = shr_and_one set number in (
      λ h. bit.1 (small, sym is ∙ eqb-true _ 1 h),
      λ h. eq-eqb _ 1 (is ∙ (bit.0 h).1),
    )

pub test_beyond : (set number : ℕ) → set < 2 ^ 63 → 63 ≤ number → IsTrue (nat_lt number 63) ↔ Has set number
test_beyond set number lt far = (
  λ h. let less = ltb-true number 63 h in absurd (omega arith),
  λ h. let small = ((by_bits set number lt).0 h).0 in absurd (omega arith),
)

pub test_alone : (set number : ℕ) → 2 ^ 63 ≤ set → IsTrue (nat_eq (set - 2 ^ 63) number) ↔ Has set number
test_alone set number le =
    let alone = has_alone set number le in (
      λ h. let e = eqb-true _ number h in alone.1 (omega arith),
      λ h. let e = alone.0 h in eq-eqb _ number (omega arith),
    )

-- ---- the numbers of a set, one after another

from_below : (k n : ℕ) → Contains (below k) n → n < k
unfolding below
from_below zero n h = absurd (Contains-nil n h)
from_below (suc k) n h =
    ⊎_elim (λ e. omega arith) (λ l. let less = from_below k n l in omega arith) (Contains-cons_cases k (below k) n h)

to_below : (k n : ℕ) → n < k → Contains (below k) n
unfolding below
to_below zero n lt = absurd (omega arith)
to_below (suc k) n lt =
    ⊎_elim
    (λ e. subst (Contains (k ∷ below k)) e (Contains-head k (below k)))
    (λ other. Contains-tail k (below k) n (to_below k n (omega arith)))
    (cases_eq k n)

once_below : (k : ℕ) → Once (below k)
unfolding below
once_below zero = tt
once_below (suc k) = (λ n h e. let less = from_below k n h in omega arith, once_below k)

-- whether the bit is one
is_one : ℕ → ℕ → Bool
is_one set n = nat_eq (bit_at set n) 1

listed_by_bits : (set : ℕ) → set < 2 ^ 63 → numbers_of set ≡ filter (is_one set) (below 63)
unfolding numbers_of is_one
listed_by_bits set lt =
    ap (λ b. cond b (filter (λ n. nat_eq (bit_at set n) 1) (below 63)) ((set - 2 ^ 63) ∷ [])) (lt-ltb set (2 ^ 63) lt)

listed_alone : (set : ℕ) → 2 ^ 63 ≤ set → numbers_of set ≡ (set - 2 ^ 63) ∷ []
unfolding numbers_of
listed_alone set le =
    ap (λ b. cond b (filter (λ n. nat_eq (bit_at set n) 1) (below 63)) ((set - 2 ^ 63) ∷ [])) (le-ltb set (2 ^ 63) le)

contains_bits : (set : ℕ) → set < 2 ^ 63 → (n : ℕ) → Contains (filter (is_one set) (below 63)) n ↔ Has set n
unfolding is_one
contains_bits set lt n =
    let bit = by_bits set n lt in (
      λ h. let r = from_filter (is_one set) (below 63) n h in bit.1 (from_below 63 n r.0, eqb-true (bit_at set n) 1 r.1),
      λ h. let b = bit.0 h in to_filter (is_one set) (below 63) n (to_below 63 n b.0) (eq-eqb (bit_at set n) 1 b.1),
    )

contains_alone : (set : ℕ) → 2 ^ 63 ≤ set → (n : ℕ) → Contains ((set - 2 ^ 63) ∷ []) n ↔ Has set n
contains_alone set le n =
    let number = set - 2 ^ 63 in
    let alone = has_alone set n le in (
      λ h. ⊎_elim (λ e. alone.1 (omega arith)) (λ k. absurd (Contains-nil n k)) (Contains-cons_cases number [] n h),
      λ h. let e = alone.0 h in subst (Contains (number ∷ [])) (let is : number ≡ n = omega arith in is) (Contains-head number []),
    )

pub contains_numbers : (set n : ℕ) → Contains (numbers_of set) n ↔ Has set n
contains_numbers set n =
    ⊎_elim
    (λ lt. subst (λ ns. Contains ns n ↔ Has set n) (sym (listed_by_bits set lt)) (contains_bits set lt n))
    (λ le. subst (λ ns. Contains ns n ↔ Has set n) (sym (listed_alone set le)) (contains_alone set le n))
    (cases_lt set (2 ^ 63))

pub numbers_once : (set : ℕ) → Once (numbers_of set)
numbers_once set =
    ⊎_elim
    (λ lt. subst (λ ns. Once ns) (sym (listed_by_bits set lt)) (once_filter (is_one set) (below 63) (once_below 63)))
    (λ le. subst (λ ns. Once ns) (sym (listed_alone set le)) (λ n h. absurd (Contains-nil n h), tt))
    (cases_lt set (2 ^ 63))

-- ---- how many they are

same_below : (p q : ℕ → Bool) (k : ℕ) → ((i : ℕ) → i < k → p i ≡ q i) → filter p (below k) ≡ filter q (below k)
unfolding below
same_below p q zero same = refl
same_below p q (suc k) same =
    let rest = same_below p q k (λ i lt. same i (omega arith)) in
    let here = same k (omega arith) in
    λ i. cond (here i) (k ∷ rest i) (rest i)

ones_zero : count_ones 0 ≡ 0
ones_zero = let l = ones_le_self 0 in omega arith

ones_one : count_ones 1 ≡ 1
ones_one = let s = ones_step 1 in let z = ones_zero in omega arith

is_one_low : (n high k low i : ℕ) → n ≡ high * 2 ^ k + low → i < k → is_one n i ≡ is_one low i
unfolding is_one
is_one_low n high k low i split less =
    ap (λ m. nat_eq (bit_at m i) 1) split ∙ ap (λ b. nat_eq b 1) (bit_at_cat_low high k low i less)

highest : (n k : ℕ) (rest : List ℕ) (high : ℕ) → high < 2 → bit_at n k ≡ high → length (cond (is_one n k) (k ∷ rest) rest) ≡ count_ones high + length rest
unfolding is_one
highest n k rest zero lt is =
    ap (λ b. length (cond (nat_eq b 1) (k ∷ rest) rest)) is ∙ (let z = ones_zero in omega arith)
highest n k rest (suc zero) lt is =
    ap (λ b. length (cond (nat_eq b 1) (k ∷ rest) rest)) is ∙ (let z = ones_one in omega arith)
highest n k rest (suc (suc e)) lt is = absurd (omega arith)

counted : (k n : ℕ) → n < 2 ^ k → length (filter (is_one n) (below k)) ≡ count_ones n
unfolding below
counted zero n lt = let l = ones_le_self n in omega arith
counted (suc k) n lt =
    let high = n / 2 ^ k in
    let low = n % 2 ^ k in
    let twice = pow-suc 2 k in
    let split : n ≡ high * 2 ^ k + low = sym (div-add-mod' n (2 ^ k)) in
    let small : high < 2 = (div-lt_iff_lt-mul (pow_pos k)).1 (omega arith) in
    let under : low < 2 ^ k = mod-lt n (pow_pos k) in
    let rest : length (filter (is_one n) (below k)) ≡ count_ones low =
    ap length (same_below (is_one n) (is_one low) k (λ i less. is_one_low n high k low i split less)) ∙ counted k low under in
    let here = highest n k (filter (is_one n) (below k)) high small (omega arith) in
    let parts = ones_cat k high low under in
    here ∙ ap (λ x. count_ones high + x) rest ∙ sym parts ∙ ap count_ones (sym split)

pub size_is : (set : ℕ) → set < 2 ^ 63 → count_ones set ≡ length (numbers_of set)
size_is set lt = sym (ap length (listed_by_bits set lt) ∙ counted 63 set lt)

pub size_alone : (set : ℕ) → 2 ^ 63 ≤ set → 1 ≡ length (numbers_of set)
size_alone set le = sym (ap length (listed_alone set le))
