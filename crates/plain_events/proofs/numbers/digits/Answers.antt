use Rattle.std.proofs.Common.{◌≡◌, ℕ, List, ◌∷◌, arith}
use Rattle.edn.proofs.Digits.{digits_start, digits_more}
use Rattle.plain_events.proofs.Numerals.{zero_begins, digits_begin}
use Rattle.plain_events.proofs.numbers.digits.Goals as goal

pub returns-then-first-eq48 : goal.returns-then-first-eq48
returns-then-first-eq48 c =
    let first : c.args.text.now ≡ 48 ∷ c.in_ok-first.behind.now = grind arith in
    zero_begins _ _ first

head_of : (first b : ℕ) (text rest t : List ℕ) → text ≡ first ∷ rest → text ≡ b ∷ t → first ≡ b
head_of first b text rest t e f = cc

pub loop-more-init : goal.loop-more-init
loop-more-init c =
    let first : c.args.text.now ≡ c.in_ok-first.first.now ∷ c.in_ok-first.behind.now = grind arith in
    let h = c.in_ok-value.ensures in
    digits_start _ _ h.0 _ _ (λ t e. omega (arith, c.if-first-eq48.false, head_of _ _ _ _ _ first e)) h.1 h.2 h.3

pub loop-more-preserved : goal.loop-more-preserved
loop-more-preserved c =
    let h = c.in-Some.ensures in
    digits_more _ _ _ _ h.0 _ _ c.loop-more.invariant h.1 h.2 h.3

pub returns : goal.returns
returns c = digits_begin _ _ _ c.loop-more.invariant
