-- rows that are looked at
use Rattle.std.proofs.Common.{◌≡◌, ℕ, zero, suc, ◌^◌, ◌/◌, ◌%◌, ◌<◌, ◌≤◌, List, Some, slice_get, refl, sym, ap, ◌∙◌, arith}
use Rattle.std.proofs.lemmas.Option.{get_or_from_slice_get, slice_get-get_or, slice_get_within}
use Rattle.words.specs.Words.{digits, row_in}
use Rattle.words.proofs.Digits.{digit_at, length-digits}

-- a word is looked at where it has numbers, and else the other numbers
pub row_half : (long bits word : ℕ) (other : List ℕ) → 0 < long → row_in long bits word other ≡ digits (2 ^ bits) long word
row_half zero bits word other some = absurd (omega (arith, some))
row_half (suc n) bits word other some = refl

-- the number at a place is zero, or a row has none there
module _ (base n w p : ℕ) where
  pub zero_there : p < n → w / base ^ p % base ≡ 0 → slice_get (digits base n w) p ≡ Some 0
  zero_there lt is =
      slice_get-get_or (digits base n w) p 0 (let l = length-digits base n w in omega (arith, l, lt)) ∙ ap Some (digit_at base n w p lt ∙ is)

  pub is_zero : p < n → slice_get (digits base n w) p ≡ Some 0 → w / base ^ p % base ≡ 0
  is_zero lt there = sym (digit_at base n w p lt) ∙ get_or_from_slice_get (digits base n w) p 0 0 there

  pub not_behind : n ≤ p → ¬ (slice_get (digits base n w) p ≡ Some 0)
  not_behind le there =
      let lt = slice_get_within (digits base n w) p 0 there in
      let l = length-digits base n w in
      omega (arith, l, lt, le)

pub ruleset looked = (is_zero, not_behind, row_half, zero_there)
