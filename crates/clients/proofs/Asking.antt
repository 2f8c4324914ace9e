-- How many calls of a sort a seat has made, by the tape that it has seen.
use Rattle.std.proofs.Common.{◌≡◌, ℕ, ◌+◌, ◌≤◌, Bool, true, List, [], ◌∷◌, ◌++◌, sym, ap, subst, ◌∙◌, arith}
use Rattle.std.specs.Prelude.{◌==◌, ◌&&◌, if◌then◌else◌}
use Rattle.std.proofs.lemmas.Bool.Decides.{nat_tests}
use mathlib.Core.List.{IsPrefix}
use Rattle.machine.specs.declared.command.Command.{Command}
use Rattle.machine.specs.Machine.{Machine}
use Rattle.board.specs.declared.tape.TapeEntry.{TapeEntry}
use Rattle.board.specs.declared.tape.TapeEntry.TheVariants.{Opening, Call}
use Rattle.board.specs.declared.seat.SeatView.{SeatView}
use Rattle.board.specs.Tape.{HasSeen}
use Rattle.board.proofs.Prefixes.{prefix_trans}
use Rattle.board.specs.CoreTape.{CoreReply}
use Rattle.clients.specs.Calls.{CoreSeat, Calls, MadeNone, MadeOne, HasMade}

abbrev pub one_if : Bool → ℕ
one_if b = if b then 1 else 0

-- how many of these entries are calls of the seat with this number, with such commands
abbrev pub asked : {S C R : Type 0} → (C → Bool) → ℕ → List (TapeEntry S C R) → ℕ
asked is_such number [] = 0
asked is_such number (Opening state ∷ rest) = asked is_such number rest
asked is_such number (Call seat command reply ∷ rest) =
    one_if ((seat == number) && is_such command) + asked is_such number rest

-- since the seat was so, it has asked such things alone: each of its calls that was answered since is on the tape that it has
-- seen then, with such a command
pub record HasAskedOnly {S C R : Type 0} (is_such : C → Bool) (old new : SeatView S C R) : Type 0 where
  pub number : new.number ≡ old.number
  pub seen : HasSeen new old.tape
  pub calls : new.count + asked is_such old.number old.tape ≤ old.count + asked is_such old.number new.tape

pub same_number : (n : ℕ) → (n == n) ≡ true
same_number n = grind (arith, nat_tests)

abbrev one_call : (S C R : Type 0) → ℕ → C → R → List (TapeEntry S C R)
one_call S C R n c r = Call n c r ∷ []

asked_one : (S C R : Type 0) (is_such : C → Bool) (n : ℕ) (c : C) (r : R) → is_such c ≡ true → asked is_such n (one_call S C R n c r) ≡ 1
asked_one S C R is_such n c r is = rw (same_number n, is) (omega arith)

module _ {S C R : Type 0} (is_such : C → Bool) where
  pub asked_append : (n : ℕ) (xs ys : List (TapeEntry S C R)) → asked is_such n (xs ++ ys) ≡ asked is_such n xs + asked is_such n ys
  asked_append n [] ys = omega arith
  asked_append n (Opening s ∷ xs) ys = asked_append n xs ys
  asked_append n (Call k c r ∷ xs) ys = omega (arith, asked_append n xs ys)

  pub asked_front : (n : ℕ) (xs ys : List (TapeEntry S C R)) → IsPrefix xs ys → asked is_such n xs ≤ asked is_such n ys
  asked_front n xs ys p = subst (λ t. asked is_such n xs ≤ asked is_such n t) p.1 (omega (arith, asked_append n xs p.0))

  pub asked_then : (a b c : SeatView S C R) → HasAskedOnly is_such a b → HasAskedOnly is_such b c → HasAskedOnly is_such a c
  asked_then a b c p q =
      let later : c.count + asked is_such a.number b.tape ≤ b.count + asked is_such a.number c.tape =
      subst (λ n. c.count + asked is_such n b.tape ≤ b.count + asked is_such n c.tape) p.number q.calls in
      record {
        number = q.number ∙ p.number;
        seen = prefix_trans a.tape b.tape c.tape p.seen q.seen;
        calls = omega (arith, p.calls, later);
      }

module _ (is_such : Command → Bool) where
  asked_none : (old new : CoreSeat) → MadeNone old new → HasAskedOnly is_such old new
  asked_none old new none = record {
    number = none.number;
    seen = none.seen;
    calls = omega (arith, none.count, asked_front is_such old.number old.tape new.tape none.seen);
  }

  asked_once : (old new : CoreSeat) (c : Command) (r : CoreReply) → MadeOne old new c r → is_such c ≡ true → HasAskedOnly is_such old new
  asked_once old new c r made is =
      let e = made.entry in
      let last : asked is_such old.number new.tape ≡ asked is_such old.number e.0 + asked is_such old.number (one_call Machine Command CoreReply old.number c r) =
      ap (asked is_such old.number) e.2 ∙ asked_append is_such old.number e.0 (one_call Machine Command CoreReply old.number c r) in
      record {
        number = made.number;
        seen = prefix_trans old.tape e.0 new.tape e.1 (Call old.number c r ∷ [], sym e.2);
        calls = omega (arith, made.count, last, asked_one Machine Command CoreReply is_such old.number c r is, asked_front is_such old.number old.tape e.0 e.1);
      }

  abbrev pub AreSuch : Calls → Type 0
  AreSuch [] = Unit {0}
  AreSuch (call ∷ calls) = (is_such call.0 ≡ true) × AreSuch calls

  -- by calls of this sort alone
  pub asked_by : (old new : CoreSeat) (calls : Calls) → HasMade old calls new → AreSuch calls → HasAskedOnly is_such old new
  asked_by old new [] made are = asked_none old new made
  asked_by old new (call ∷ calls) made are =
      asked_then is_such old made.0 new (asked_once old made.0 call.0 call.1 made.1 are.0) (asked_by made.0 new calls made.2 are.1)
