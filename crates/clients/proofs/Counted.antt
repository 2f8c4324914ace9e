-- How many calls of seats are on a tape, by their numbers.
use Rattle.std.proofs.Common.{◌≡◌, ℕ, zero, suc, ◌+◌, ◌≤◌, Bool, true, false, List, [], ◌∷◌, length, Some, refl, ap, subst, arith}
use Rattle.std.specs.Prelude.{slice_get, nat_lt, not, ◌==◌, ◌&&◌}
use Rattle.std.specs.List.{All, sum_by}
use Rattle.std.proofs.lemmas.Bool.Decides.{nat_tests}
use Rattle.std.proofs.lemmas.List.Sums.{sum_by-cons}
use mathlib.Core.List.{IsPrefix}
use Rattle.machine.specs.declared.command.Command.{Command}
use Rattle.board.specs.declared.tape.TapeEntry.TheVariants.{Opening, Call}
use Rattle.board.specs.CoreTape.{CoreTape, calls_on}
use Rattle.clients.specs.Calls.{CoreSeat}
use Rattle.clients.proofs.Asking.{one_if, asked, asked_front}

one_entry : (k n : ℕ) (b : Bool) → one_if ((k == n) && b) + one_if (not (nat_lt k (n + 1)) && b) ≤ one_if (not (nat_lt k n) && b)
one_entry k n b = go (k == n) refl (nat_lt k (n + 1)) refl (nat_lt k n) refl where
  go : (x : Bool) → (k == n) ≡ x → (y : Bool) → nat_lt k (n + 1) ≡ y → (z : Bool) → nat_lt k n ≡ z
      → one_if ((k == n) && b) + one_if (not (nat_lt k (n + 1)) && b) ≤ one_if (not (nat_lt k n) && b)
  go true ex true ey true ez = absurd (grind (arith, nat_tests))
  go true ex true ey false ez = rw (ex, ey, ez) (omega arith)
  go true ex false ey z ez = absurd (grind (arith, nat_tests))
  go false ex true ey true ez = rw (ex, ey, ez) (omega arith)
  go false ex true ey false ez = absurd (grind (arith, nat_tests))
  go false ex false ey true ez = absurd (grind (arith, nat_tests))
  go false ex false ey false ez = rw (ex, ey, ez) (omega arith)

later_entry : (n seat k : ℕ) (b : Bool) → n ≤ seat → one_if ((k == seat) && b) ≤ one_if (not (nat_lt k n) && b)
later_entry n seat k b le = go (k == seat) refl (nat_lt k n) refl where
  go : (x : Bool) → (k == seat) ≡ x → (y : Bool) → nat_lt k n ≡ y → one_if ((k == seat) && b) ≤ one_if (not (nat_lt k n) && b)
  go true ex true ey = absurd (grind (arith, nat_tests))
  go true ex false ey = rw (ex, ey) (omega arith)
  go false ex y ey = rw ex (omega arith)

pub one_at_most : (b : Bool) → one_if b ≤ 1
one_at_most true = omega arith
one_at_most false = omega arith

pub few_calls : (tape : CoreTape) → length (calls_on tape) ≤ length tape
few_calls [] = omega arith
few_calls (Opening m ∷ rest) = omega (arith, few_calls rest)
few_calls (Call k c r ∷ rest) = omega (arith, few_calls rest)

module _ (is_such : Command → Bool) where
  -- how many such calls there are of seats from this number on
  abbrev pub such_from : ℕ → CoreTape → ℕ
  such_from n [] = 0
  such_from n (Opening m ∷ rest) = such_from n rest
  such_from n (Call k c r ∷ rest) = one_if (not (nat_lt k n) && is_such c) + such_from n rest

  one_seat : (n : ℕ) (tape : CoreTape) → asked is_such n tape + such_from (n + 1) tape ≤ such_from n tape
  one_seat n [] = omega arith
  one_seat n (Opening m ∷ rest) = one_seat n rest
  one_seat n (Call k c r ∷ rest) = omega (arith, one_entry k n (is_such c), one_seat n rest)

  pub few_such : (n : ℕ) (tape : CoreTape) → such_from n tape ≤ length (calls_on tape)
  few_such n [] = omega arith
  few_such n (Opening m ∷ rest) = few_such n rest
  few_such n (Call k c r ∷ rest) = omega (arith, one_at_most (not (nat_lt k n) && is_such c), few_such n rest)

  -- the seats, which are numbered from this one on, count no more than such calls of theirs that they have seen
  abbrev pub AreCounted : ℕ → List CoreSeat → Type 0
  AreCounted n seats =
      (k : ℕ) (s : CoreSeat) → slice_get seats k ≡ Some s → (s.number ≡ n + k) × (s.count ≤ asked is_such s.number s.tape)

  first_counted : (tape : CoreTape) (n : ℕ) (s : CoreSeat) (rest : List CoreSeat) → AreCounted n (s ∷ rest)
      → All (λ (t : CoreSeat). IsPrefix t.tape tape) (s ∷ rest) → s.count ≤ asked is_such n tape
  first_counted tape n s rest own seen =
      let mine = own 0 s refl in
      let number : s.number ≡ n = omega (arith, mine.0) in
      let first : asked is_such s.number s.tape ≤ asked is_such s.number tape = asked_front is_such s.number s.tape tape (seen 0 s (omega arith)) in
      subst (λ (m : ℕ). s.count ≤ asked is_such m tape) number (omega (arith, mine.1, first))

  others_counted : (n : ℕ) (s : CoreSeat) (rest : List CoreSeat) → AreCounted n (s ∷ rest) → AreCounted (n + 1) rest
  others_counted n s rest own = λ k t at. let o = own (suc k) t at in (omega (arith, o.0), o.1)

  others_seen : (tape : CoreTape) (s : CoreSeat) (rest : List CoreSeat) → All (λ (t : CoreSeat). IsPrefix t.tape tape) (s ∷ rest)
      → All (λ (t : CoreSeat). IsPrefix t.tape tape) rest
  others_seen tape s rest seen = λ k d within. seen (suc k) d (omega (arith, within))

  -- the counted calls of the seats are on the tape
  pub counted : (tape : CoreTape) (n : ℕ) (seats : List CoreSeat) → AreCounted n seats
      → All (λ (s : CoreSeat). IsPrefix s.tape tape) seats → sum_by (λ (s : CoreSeat). s.count) seats ≤ such_from n tape
  counted tape n [] own seen = omega arith
  counted tape n (s ∷ rest) own seen =
      let others = counted tape (n + 1) rest (others_counted n s rest own) (others_seen tape s rest seen) in
      omega (arith, first_counted tape n s rest own seen, others, one_seat n tape, sum_by-cons (λ (t : CoreSeat). t.count) s rest)

  -- and with it those of later seats
  pub counted_with : (tape : CoreTape) (n last : ℕ) (seats : List CoreSeat) → last ≡ n + length seats → AreCounted n seats
      → All (λ (s : CoreSeat). IsPrefix s.tape tape) seats → sum_by (λ (s : CoreSeat). s.count) seats + such_from last tape ≤ such_from n tape
  counted_with tape n last [] size own seen =
      let same : such_from last tape ≡ such_from n tape = ap (λ (m : ℕ). such_from m tape) (omega (arith, size)) in
      omega (arith, same)
  counted_with tape n last (s ∷ rest) size own seen =
      let others = counted_with tape (n + 1) last rest (omega (arith, size)) (others_counted n s rest own) (others_seen tape s rest seen) in
      omega (arith, first_counted tape n s rest own seen, others, one_seat n tape, sum_by-cons (λ (t : CoreSeat). t.count) s rest)

  -- a seat's calls are among those of the seats from a number on that is not above its own
  pub among_later : (n seat : ℕ) → n ≤ seat → (tape : CoreTape) → asked is_such seat tape ≤ such_from n tape
  among_later n seat le [] = omega arith
  among_later n seat le (Opening m ∷ rest) = among_later n seat le rest
  among_later n seat le (Call k c r ∷ rest) = omega (arith, later_entry n seat k (is_such c) le, among_later n seat le rest)

  -- and so is what one of them counts less than it has there
  pub counted_but : (tape : CoreTape) (n : ℕ) (seats : List CoreSeat) → AreCounted n seats
      → All (λ (s : CoreSeat). IsPrefix s.tape tape) seats → (j : ℕ) (t : CoreSeat) → slice_get seats j ≡ Some t
      → sum_by (λ (s : CoreSeat). s.count) seats + asked is_such (n + j) tape ≤ t.count + such_from n tape
  counted_but tape n [] own seen j t at = absurd (cc at)
  counted_but tape n (s ∷ rest) own seen zero t at =
      let same : s ≡ t = cc at in
      let count : s.count ≡ t.count = ap (λ (x : CoreSeat). x.count) same in
      let here : asked is_such (n + 0) tape ≡ asked is_such n tape = ap (λ (m : ℕ). asked is_such m tape) (omega arith) in
      let others = counted tape (n + 1) rest (others_counted n s rest own) (others_seen tape s rest seen) in
      omega (arith, count, here, others, one_seat n tape, sum_by-cons (λ (x : CoreSeat). x.count) s rest)
  counted_but tape n (s ∷ rest) own seen (suc j) t at =
      let there : asked is_such (n + suc j) tape ≡ asked is_such ((n + 1) + j) tape = ap (λ (m : ℕ). asked is_such m tape) (omega arith) in
      let others = counted_but tape (n + 1) rest (others_counted n s rest own) (others_seen tape s rest seen) j t at in
      omega (arith, first_counted tape n s rest own seen, there, others, one_seat n tape, sum_by-cons (λ (x : CoreSeat). x.count) s rest)
