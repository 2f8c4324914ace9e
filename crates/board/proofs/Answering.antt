-- The seat after a call.
use Rattle.std.proofs.Common.{◌≡◌, ℕ, ◌++◌, List, sym, subst, ap, ◌∙◌, append_assoc, Result, Ok, Err, IfOk, IfErr}
use mathlib.Core.List.{IsPrefix}
use Rattle.edn.specs.declared.refusal.Refusal.{Refusal}
use Rattle.edn.specs.declared.refusal.Refusal.TheVariants.{TapeFull, NoMemory}
use Rattle.board.specs.declared.tape.TapeEntry.{TapeEntry}
use Rattle.board.specs.declared.seat.SeatView.{SeatView}
use Rattle.board.specs.Tape.{IsAnswered, IsRefused}
use Rattle.board.proofs.Prefixes.{prefix_self}

-- a prefix of a list is one of the longer lists
prefix_on : {A : Type 0} (xs ys more : List A) → IsPrefix xs ys → IsPrefix xs (ys ++ more)
prefix_on xs ys more p = (p.0 ++ more, sym (append_assoc xs p.0 more) ∙ ap (λ w. w ++ more) p.1)

module _ {S C R : Type 0} (replies : S → C → R → S → Type 0) (may_want : S → C → Type 0) where
  answered_seen : (old new : SeatView S C R) (command : C) (reply : R) (commit : ℕ) (news : List (TapeEntry S C R))
      → IsAnswered replies old new command reply commit news → IsPrefix old.tape new.tape
  answered_seen old new command reply commit news a =
      subst (λ t. IsPrefix old.tape t) (sym a.entry.2) (prefix_on old.tape a.entry.0 _ a.entry.1)

  refused_seen : (whole : List (TapeEntry S C R)) (old new : SeatView S C R) (command : C) (why : Refusal)
      → IsRefused replies may_want whole old new command why → IsPrefix old.tape new.tape
  refused_seen whole old new command TapeFull r = subst (λ t. IsPrefix old.tape t) (sym r.cause.1) r.begins
  refused_seen whole old new command NoMemory r = subst (λ t. IsPrefix old.tape t) (sym r.cause.2) (prefix_self old.tape)
  refused_seen whole old new command why r = absurd r.cause

  -- whatever a call under the lock answers, its seat has seen what it had
  pub call_seen : {A : Type 0} (reply : A → R) (commit : A → ℕ) (news : A → List (TapeEntry S C R)) (result : Result A Refusal)
      (whole after : List (TapeEntry S C R)) (old new : SeatView S C R) (command : C)
      → IfOk result (λ a. IsAnswered replies old new command (reply a) (commit a) (news a))
      → IfErr result (λ why. (after ≡ whole) × IsRefused replies may_want whole old new command why)
      → IsPrefix old.tape new.tape
  call_seen reply commit news (Ok a) whole after old new command answered refused =
      answered_seen old new command (reply a) (commit a) (news a) answered
  call_seen reply commit news (Err why) whole after old new command answered refused = refused_seen whole old new command why refused.1
