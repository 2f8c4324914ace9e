-- Invariant: a set of integers as spans of consecutive members
use Rattle.std.specs.Prelude.{◌≡◌, ℕ, zero, suc, ℤ, pos, negsuc, ◌+ℤ◌, ◌-ℤ◌, ◌<ℤ◌, ◌≤ℤ◌, unsigned_abs, List, [], ◌∷◌, refl}
use Rattle.std.proofs.Common.{lit<}
use Rattle.std.specs.List.{Contains, flat_map}
use Rattle.values.specs.declared.span_row.Span.{Span}
use Rattle.values.specs.Sums.{sum_of}

-- n consecutive integers from x on
abbrev pub in_turn : ℤ → ℕ → List ℤ
in_turn x zero = []
in_turn x (suc n) = x ∷ in_turn (x +ℤ pos 1) n

-- the number of integers from a to b
abbrev pub many : ℤ → ℤ → ℕ
many a b = unsigned_abs ((b -ℤ a) +ℤ pos 1)

-- the integers from a to b
abbrev pub from_to : ℤ → ℤ → List ℤ
from_to a b = in_turn a (many a b)

-- the integers of all spans, in order
abbrev pub integers_in : List Span → List ℤ
integers_in spans = flat_map (λ (span : Span). from_to span.from span.to) spans

-- each of these spans ends before x, with an integer missing between them
abbrev pub EndBefore : List Span → ℤ → Type 0
EndBefore spans x = (span : Span) → Contains spans span → (span.to +ℤ pos 1) <ℤ x

-- each of these spans starts after x, with an integer missing between them
abbrev pub StartBehind : List Span → ℤ → Type 0
StartBehind spans x = (span : Span) → Contains spans span → (x +ℤ pos 1) <ℤ span.from

-- no span is empty, and between a span and any later one an integer is missing
abbrev pub StandApart : List Span → Type 0
StandApart [] = Unit {0}
StandApart (span ∷ spans) = (span.from ≤ℤ span.to) × StartBehind spans span.to × StandApart spans

-- the spans of a set, with the sum of its members
pub record AreSpans (spans : List Span) (sum : ℕ) : Type 0 where
  pub apart : StandApart spans
  pub sums : sum ≡ sum_of (integers_in spans)

-- examples: from -2 to 1 there are four integers; the set of 3, 4, 5 and 9 has two spans; two spans without a missing integer between them,
-- such as 3 and 4 to 5, do not stand apart
worked_turn : from_to (negsuc 1) (pos 1) ≡ negsuc 1 ∷ negsuc 0 ∷ pos 0 ∷ pos 1 ∷ []
worked_turn = refl

worked_spans : integers_in (record { from = pos 3; to = pos 5 } ∷ record { from = pos 9; to = pos 9 } ∷ []) ≡ pos 3 ∷ pos 4 ∷ pos 5 ∷ pos 9 ∷ []
worked_spans = refl

worked_joined : StandApart (record { from = pos 3; to = pos 3 } ∷ record { from = pos 4; to = pos 5 } ∷ []) → ⊥
worked_joined is = (is.1 (record { from = pos 4; to = pos 5 }) (0, lit< tt, refl)).lt
