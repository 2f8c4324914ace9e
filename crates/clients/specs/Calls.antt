-- Promise: the calls that a seat has made since it was so (this project's own)
use Rattle.std.specs.Prelude.{◌≡◌, ◌⊎◌, ◌+◌, List, [], ◌∷◌, ◌++◌, Err}
use mathlib.Core.List.{IsPrefix}
use Rattle.edn.specs.declared.refusal.Refusal.TheVariants.{TapeFull, NoMemory}
use Rattle.machine.specs.declared.command.Command.{Command}
use Rattle.machine.specs.Machine.{Machine}
use Rattle.board.specs.declared.tape.TapeEntry.TheVariants.{Call}
use Rattle.board.specs.declared.seat.SeatView.{SeatView}
use Rattle.board.specs.Tape.{HasSeen}
use Rattle.board.specs.CoreTape.{CoreReply, CoreTape}

-- the visible part of a seat of the one-thread object's board
abbrev pub CoreSeat : Type 0
CoreSeat = SeatView Machine Command CoreReply

-- commands in order, each with its reply
abbrev pub Calls : Type 0
Calls = List (Command × CoreReply)

-- it is the same seat, made no call, and has still seen all that it had
pub record MadeNone (old new : CoreSeat) : Type 0 where
  pub number : new.number ≡ old.number
  pub seen : HasSeen new old.tape
  pub count : new.count ≡ old.count

-- it is the same seat, and made one call: that is the last entry of the tape which it has then seen, and comes after all that
-- it had seen
pub record MadeOne (old new : CoreSeat) (command : Command) (reply : CoreReply) : Type 0 where
  pub number : new.number ≡ old.number
  pub entry : (before : CoreTape) × IsPrefix old.tape before
      × (new.tape ≡ before ++ Call old.number command reply ∷ [])
  pub count : new.count ≡ old.count + 1

-- it is the same seat, and made these calls, one after the other
abbrev pub HasMade : CoreSeat → Calls → CoreSeat → Type 0
HasMade old [] new = MadeNone old new
HasMade old (call ∷ calls) new =
    (between : CoreSeat) × MadeOne old between call.0 call.1 × HasMade between calls new

-- such a refusal may come without a call
abbrev pub MayBeNoCall : CoreReply → Type 0
MayBeNoCall (Err TapeFull) = Unit {0}
MayBeNoCall (Err NoMemory) = Unit {0}
MayBeNoCall reply = ⊥

-- the command was answered so: by a call, or it is none, since the tape was full or an allocation fails
abbrev pub IsTold : CoreSeat → Command → CoreReply → CoreSeat → Type 0
IsTold old command reply new =
    MadeOne old new command reply ⊎ (MadeNone old new × MayBeNoCall reply)
