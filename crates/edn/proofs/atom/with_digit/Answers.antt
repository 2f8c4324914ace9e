use Rattle.std.proofs.Common.{◌≡◌, ℕ, Bool, false, IsTrue, List, ◌∷◌, ap, arith}
use Rattle.edn.specs.Bytes.{is_digit}
use Rattle.edn.proofs.Digits.{digit_bounds, no_room, room}
use Rattle.edn.proofs.atom.with_digit.Goals as goal

other_head : (first b : ℕ) (text rest t : List ℕ) → text ≡ first ∷ rest → text ≡ b ∷ t → b ≡ first
other_head first b text rest t e f = cc

not_digit : (first b : ℕ) (r : Bool) → r ≡ false → r ≡ is_digit first → b ≡ first → IsTrue (is_digit b) → ⊥
not_digit first b r off e same on = cc (ap is_digit same)

pub returns-then-not-is_digit-clause-none : goal.returns-then-not-is_digit-clause-none
returns-then-not-is_digit-clause-none c n t k =
    let b = k.0 in
    let e = k.1 in
    let h = k.2 in
    let first : c.args.text.now ≡ c.in_ok-first.first.now ∷ c.in_ok-first.rest.now = grind arith in
    not_digit c.in_ok-first.first.now b c.is_digit.result c.if-not-is_digit.true c.is_digit.ensures (other_head _ b _ _ t first e) h.0

pub returns-then-value-most-clause-none : goal.returns-then-value-most-clause-none
returns-then-value-most-clause-none c n t k =
    let b = k.0 in
    let e = k.1 in
    let h = k.2 in
    let first : c.args.text.now ≡ c.in_ok-first.first.now ∷ c.in_ok-first.rest.now = grind arith in
    let same = other_head _ b _ _ t first e in
    let d = digit_bounds b h.0 in
    no_room c.args.value c.args.most b (omega (arith, c.requires, d.0, d.1)) (omega (arith, c.if-value-most.true, c.from-digit.ensures, same)) (omega (arith, h.1))

pub returns-clause-found : goal.returns-clause-found
returns-clause-found c =
    let first : c.args.text.now ≡ c.in_ok-first.first.now ∷ c.in_ok-first.rest.now = grind arith in
    let on : IsTrue (is_digit c.in_ok-first.first.now) = cc in
    let d = digit_bounds c.in_ok-first.first.now on in
    (c.in_ok-first.first.now, first, (on, omega (arith, c.from-digit.ensures)), omega (arith, room c.args.value c.args.most c.from-digit.result (omega (arith, c.requires, c.from-digit.ensures, d.0, d.1)) c.if-value-most.false))
