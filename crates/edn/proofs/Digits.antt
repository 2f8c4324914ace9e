-- Numerals that are read digit by digit
use Rattle.std.proofs.Common.{◌≡◌, ℕ, ◌+◌, ◌-◌, ◌*◌, ◌/◌, ◌<◌, ◌≤◌, IsTrue, List, [], ◌∷◌, ◌++◌, length, inl, inr, refl, sym, ap, ◌∙◌, subst, arith, append_assoc, length-append}
use Rattle.std.specs.List.{AllByRecursion}
use Rattle.std.specs.Str.Parse.{digits_value, digits_value_after}
use Rattle.std.specs.Char.{digit_value}
use Rattle.std.proofs.lemmas.Bool.Decides.{nat_tests}
use Rattle.std.proofs.lemmas.Int.Digits.{digits_value_push}
use Rattle.edn.specs.Bytes.{is_digit, IsNumeral}
use Rattle.edn.specs.Longest.{AddsDigit, TakesDigit, IsNumeralOf, IsLongest, HasNone}

pub digit_bounds : (b : ℕ) → IsTrue (is_digit b) → (48 ≤ b) × (b ≤ 57)
digit_bounds b h = (grind (arith, nat_tests), grind (arith, nat_tests))

digit_from_bounds : (b : ℕ) → 48 ≤ b → b ≤ 57 → IsTrue (is_digit b)
digit_from_bounds b l h = grind (arith, nat_tests)

value_of_digit : (b : ℕ) → 48 ≤ b → b ≤ 57 → digit_value b ≡ b - 48
value_of_digit b l h = grind (arith, nat_tests)

grows : (n : ℕ) (ds : List ℕ) → n ≤ digits_value_after 10 n ds
grows n [] = omega arith
grows n (d ∷ ds) = let h = grows (n * 10 + digit_value d) ds in omega arith

value-append : (n : ℕ) (xs ys : List ℕ) → digits_value_after 10 n (xs ++ ys) ≡ digits_value_after 10 (digits_value_after 10 n xs) ys
value-append n [] ys = refl
value-append n (x ∷ xs) ys = value-append (n * 10 + digit_value x) xs ys

all_digits_push : (ds : List ℕ) (b : ℕ) → AllByRecursion (λ c. IsTrue (is_digit c)) ds → IsTrue (is_digit b) → AllByRecursion (λ c. IsTrue (is_digit c)) (ds ++ b ∷ [])
all_digits_push [] b h i = (i, tt)
all_digits_push (d ∷ ds) b h i = (h.0, all_digits_push ds b h.1 i)

all_digits_at : (ds rest : List ℕ) (b : ℕ) → AllByRecursion (λ c. IsTrue (is_digit c)) (ds ++ b ∷ rest) → IsTrue (is_digit b)
all_digits_at [] rest b h = h.0
all_digits_at (d ∷ ds) rest b h = all_digits_at ds rest b h.1

digit_at : (front rest : List ℕ) (b : ℕ) → IsNumeral (front ++ b ∷ rest) → IsTrue (is_digit b)
digit_at [] rest b (inl h) = digit_from_bounds b (omega arith) (omega arith)
digit_at [] rest b (inr h) = digit_from_bounds b (omega arith) (omega arith)
digit_at (d ∷ ds) rest b (inl h) = absurd (let n = ap length h.1 ∙ refl in let m = length-append ds (b ∷ rest) in omega arith)
digit_at (d ∷ ds) rest b (inr h) = all_digits_at ds rest b h.2

-- the number that is written so far, and what follows it
pub record DigitsSoFar (most : ℕ) (text : List ℕ) (value : ℕ) (rest : List ℕ) : Type 0 where
  pub front : List ℕ
  pub cut : text ≡ front ++ rest
  pub writes : digits_value 10 front ≡ value
  pub small : value ≤ most
  pub positive : 0 < value
  pub shape : IsNumeral front

-- a first digit, and a digit more
pub digits_start : (most : ℕ) (text : List ℕ) (b n : ℕ) (after : List ℕ) → ((t : List ℕ) → text ≡ 48 ∷ t → ⊥) → text ≡ b ∷ after → AddsDigit 0 b n → n ≤ most → DigitsSoFar most text n after
digits_start most text b n after not_zero cut h s =
    let l = digit_bounds b h.0 in
    let d = value_of_digit b l.0 l.1 in
    let k = more_than 48 b l.0 (λ e. not_zero after (cut ∙ ap (λ x. x ∷ after) (sym e))) in
    record { front = b ∷ []; cut = cut; writes = omega (arith, h.1, d); small = s; positive = omega (arith, h.1); shape = inr (k, l.1, tt) }
  where
    more_than : (x y : ℕ) → x ≤ y → (x ≡ y → ⊥) → x < y
    more_than x y p q = grind arith

pushed : (front : List ℕ) (b : ℕ) → IsNumeral front → 0 < digits_value 10 front → IsTrue (is_digit b) → IsNumeral (front ++ b ∷ [])
pushed [] b s p i = absurd s
pushed (d ∷ ds) b (inl h) p i =
    let z : digits_value 10 (d ∷ ds) ≡ 0 = ap (λ x. digits_value 10 (x ∷ ds)) h.0 ∙ ap (λ x. digits_value 10 (48 ∷ x)) h.1 in
    absurd (omega arith)
pushed (d ∷ ds) b (inr h) p i = inr (h.0, h.1, all_digits_push ds b h.2 i)

pub digits_more : (most : ℕ) (text : List ℕ) (value : ℕ) (rest : List ℕ) (b n : ℕ) (after : List ℕ) → DigitsSoFar most text value rest → rest ≡ b ∷ after → AddsDigit value b n → n ≤ most →
    DigitsSoFar most text n after
digits_more most text value rest b n after h e i s =
    let l = digit_bounds b i.0 in
    let w = digits_value_push 10 h.front b in
    let d = value_of_digit b l.0 l.1 in
    let p = h.positive in
    record {
      front = h.front ++ b ∷ [];
      cut = h.cut ∙ ap (λ x. h.front ++ x) e ∙ sym (append_assoc h.front (b ∷ []) after);
      writes = omega (arith, w, d, h.writes, i.1);
      small = s;
      positive = omega (arith, i.1);
      shape = pushed h.front b h.shape (omega (arith, h.writes)) i.0;
    }

-- a longer list with the same beginning
pub goes_past : (front rest a z : List ℕ) → front ++ rest ≡ a ++ z → length front < length a → (b : ℕ) × (after more : List ℕ) × (rest ≡ b ∷ after) × (a ≡ front ++ b ∷ more)
goes_past [] rest [] z e l = absurd (omega arith)
goes_past [] rest (x ∷ a) z e l = (x, a ++ z, a, e, refl)
goes_past (y ∷ front) rest [] z e l = absurd (omega arith)
goes_past (y ∷ front) rest (x ∷ a) z e l =
    let tails : front ++ rest ≡ a ++ z = cc in
    let heads : y ≡ x = cc in
    let h = goes_past front rest a z tails (omega arith) in
    (h.0, h.1, h.2, h.3, cc (h.4, heads))

-- a longer number has no more than the first digits
too_large : (most : ℕ) (front more : List ℕ) (b value : ℕ) → digits_value 10 front ≡ value → IsTrue (is_digit b) → digits_value 10 (front ++ b ∷ more) ≤ most → 10 * value + (b - 48) ≤ most
too_large most front more b value w i s =
    let l = digit_bounds b i in
    let a = value-append 0 front (b ∷ more) in
    let d = value_of_digit b l.0 l.1 in
    let g = grows (digits_value 10 front * 10 + digit_value b) more in
    omega arith

-- no digit more can be added
abbrev pub Stops : ℕ → ℕ → List ℕ → Type 0
Stops most value rest = (n : ℕ) (t : List ℕ) → TakesDigit most value rest n t → ⊥

longest_here : (most : ℕ) (text : List ℕ) (value : ℕ) (rest : List ℕ) → (h : DigitsSoFar most text value rest) → Stops most value rest →
    (a z : List ℕ) (w : ℕ) → IsNumeralOf most a w → text ≡ a ++ z → length h.front < length a → ⊥
longest_here most text value rest h stop a z w i e l =
    let p = goes_past h.front rest a z (sym h.cut ∙ e) l in
    let whole : IsNumeral (h.front ++ p.0 ∷ p.2) = subst IsNumeral p.4 i.0 in
    let d = digit_at h.front p.2 p.0 whole in
    let v = ap (digits_value 10) p.4 in
    stop _ p.1 (p.0, p.3, (d, refl), too_large most h.front p.2 p.0 value h.writes d (omega (arith, v, i.1, i.2)))

pub longest_found : (most : ℕ) (text : List ℕ) (value : ℕ) (rest : List ℕ) → DigitsSoFar most text value rest → Stops most value rest → IsLongest (IsNumeralOf most) text value rest
longest_found most text value rest h stop = record {
  front = h.front;
  cut = h.cut;
  spells = (h.shape, h.writes, h.small);
  longest = λ a z w i e. not_more (length a) (length h.front) (λ l. longest_here most text value rest h stop a z w i e l);
}
  where
    not_more : (m n : ℕ) → (n < m → ⊥) → m ≤ n
    not_more m n p = grind arith

-- a zero stands alone
pub zero_found : (most : ℕ) (text rest : List ℕ) → text ≡ 48 ∷ rest → IsLongest (IsNumeralOf most) text 0 rest
zero_found most text rest cut = record {
  front = 48 ∷ [];
  cut = cut;
  spells = (inl (refl, refl), refl, omega arith);
  longest = λ a z w i e. alone a z (sym cut ∙ e) i.0;
}
  where
    alone : (a z : List ℕ) → 48 ∷ rest ≡ a ++ z → IsNumeral a → length a ≤ 1
    alone [] z e h = absurd h
    alone (x ∷ a) z e (inl h) = let n = ap length h.1 in omega arith
    alone (x ∷ a) z e (inr h) = let same : 48 ≡ x = cc in absurd (omega (arith, h.0))

-- where no first digit stands, no numeral does
pub none_found : (most : ℕ) (text : List ℕ) → Stops most 0 text → HasNone (IsNumeralOf most) text
none_found most text stop [] z w i e = absurd i.0
none_found most text stop (x ∷ a) z w i e =
    let d = digit_at [] a x i.0 in
    stop _ (a ++ z) (x, e, (d, refl), too_large most [] a x 0 refl d (omega (arith, i.1, i.2)))

-- whether a digit more has room
pub room : (value most digit : ℕ) → digit ≤ most → value ≤ (most - digit) / 10 → 10 * value + digit ≤ most
room value most digit l h = omega arith

pub no_room : (value most b : ℕ) → b - 48 ≤ most → (most - (b - 48)) / 10 < value → 10 * value + (b - 48) ≤ most → ⊥
no_room value most b l h k = omega arith
