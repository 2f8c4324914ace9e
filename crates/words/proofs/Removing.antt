-- a word without one of its numbers
use Rattle.std.proofs.Common.{◌≡◌, ℕ, zero, suc, ◌+◌, ◌*◌, ◌^◌, ◌/◌, ◌%◌, ◌<◌, ◌-◌, List, [], ◌∷◌, sym, ap, ◌∙◌, arith}
use Rattle.std.proofs.Math.Nat.{zero-add, mod-eq-sub-div-mul, mod-add-div, mul-div_cancel_left, mul_comm, pow-zero, pow-suc, mod-one, div-one, div-div-eq-div-mul}
use Rattle.std.proofs.Math.Arith.{mod-mul}
use Rattle.std.proofs.lemmas.Nat.{mul-lt, pow_pos}
use Rattle.std.specs.List.{remove}
use Rattle.words.specs.Words.{IsWordOf, digits, value}
use Rattle.words.proofs.Digits.{AreBelow, below_digits, is_word, pow_of}

module _ (base : ℕ) (some : 0 < base) where
  pub rest_exact : (n w : ℕ) → value base (digits base (suc n) w) ≡ w → value base (digits base n (w / base)) ≡ w / base
  rest_exact n w is =
      let v = value base (digits base n (w / base)) in
      let all = mod-add-div w base in
      let same : base * v ≡ base * (w / base) = omega (arith, is, all) in
      sym (mul-div_cancel_left v some) ∙ ap (λ x. x / base) same ∙ mul-div_cancel_left (w / base) some

  -- the lower numbers, and those behind the one that is gone
  abbrev pub left_of : ℕ → ℕ → ℕ
  left_of w p = w % base ^ p + w / base ^ p / base * base ^ p

  left_more : (w p : ℕ) → left_of w (suc p) ≡ w % base + base * left_of (w / base) p
  left_more w p =
      let pow : base ^ suc p ≡ base ^ p * base = pow-suc base p in
      let low : w % base ^ suc p ≡ w / base % base ^ p * base + w % base = ap (λ x. w % x) pow ∙ mod-mul w (positive p) some in
      let high : w / base ^ suc p ≡ w / base / base ^ p = ap (λ x. w / x) (pow ∙ mul_comm (base ^ p) base) ∙ sym (div-div-eq-div-mul w base (base ^ p)) in
      ap (λ x. x + w / base ^ suc p / base * base ^ suc p) low
      ∙ ap (λ x. w / base % base ^ p * base + w % base + x / base * base ^ suc p) high
      ∙ ap (λ x. w / base % base ^ p * base + w % base + w / base / base ^ p / base * x) pow
      ∙ turned (w / base % base ^ p) base (w % base) (w / base / base ^ p / base) (base ^ p)
    where
      positive : (k : ℕ) → 0 < base ^ k
      positive zero = (let one : base ^ 0 ≡ 1 = pow-zero base in omega (arith, one))
      positive (suc k) = (let more : base ^ suc k ≡ base ^ k * base = pow-suc base k in let rest = mul-lt 0 0 (base ^ k) base (positive k) some in omega (arith, more, rest))

      turned : (a b r h q : ℕ) → a * b + r + h * (q * b) ≡ r + b * (a + h * q)
      turned a b r h q = grind arith

  pub value_without : (n w p : ℕ) → p < n → value base (digits base n w) ≡ w → value base (remove (digits base n w) p) ≡ left_of w p
  value_without zero w p lt is = absurd (omega (arith, lt))
  value_without (suc n) w zero lt is =
      let low : w % base ^ 0 ≡ 0 = ap (λ x. w % x) (pow-zero base) ∙ mod-one w in
      let high : w / base ^ 0 ≡ w = ap (λ x. w / x) (pow-zero base) ∙ div-one w in
      let one : w / base * base ^ 0 ≡ w / base = ap (λ x. w / base * x) (pow-zero base) ∙ by_one (w / base) in
      rest_exact n w is ∙ sym (ap (λ x. x + w / base ^ 0 / base * base ^ 0) low ∙ ap (λ x. 0 + x / base * base ^ 0) high ∙ zero-add (w / base * base ^ 0) ∙ one)
    where
      by_one : (x : ℕ) → x * 1 ≡ x
      by_one x = grind arith
  value_without (suc n) w (suc p) lt is =
      ap (λ x. w % base + base * x) (value_without n (w / base) p (omega (arith, lt)) (rest_exact n w is)) ∙ sym (left_more w p)

below_remove : (base : ℕ) (some : 0 < base) (ds : List ℕ) (p : ℕ) → AreBelow base some ds → AreBelow base some (remove ds p)
below_remove base some [] zero below i = below i
below_remove base some [] (suc p) below i = below i
below_remove base some (d ∷ ds) zero below i = below (suc i)
below_remove base some (d ∷ ds) (suc p) below zero = below 0
below_remove base some (d ∷ ds) (suc p) below (suc i) = below_remove base some ds p (λ j. below (suc j)) i

pub without_word : (base : ℕ) (some : 0 < base) (n w p word : ℕ) → p < n → value base (digits base n w) ≡ w → word ≡ left_of base some w p → IsWordOf base (remove (digits base n w) p) word
without_word base some n w p word lt exact is =
    is_word base some (remove (digits base n w) p) word (below_remove base some (digits base n w) p (below_digits base some n w)) (is ∙ sym (value_without base some n w p lt exact))

-- as it is made by shifts
pub shifted : (bits at w : ℕ) → w - w / 2 ^ (bits * at) * 2 ^ (bits * at) + w / 2 ^ (bits * at) / 2 ^ bits * 2 ^ (bits * at) ≡ left_of (2 ^ bits) (pow_pos bits) w at
shifted bits at w =
    ap (λ x. x + w / 2 ^ (bits * at) / 2 ^ bits * 2 ^ (bits * at)) (sym (mod-eq-sub-div-mul w (2 ^ (bits * at))))
    ∙ ap (λ p. w % p + w / p / 2 ^ bits * p) (sym (pow_of bits at))
