-- Invariant: how far clients and the nemesis have come
use Rattle.std.specs.Prelude.{◌≡◌, ◌⊎◌, ℕ, ◌<◌, Option, Some, None, Err, List, [], ◌∷◌, length, slice_index_or}
use Rattle.edn.specs.declared.refusal.Refusal.{Refusal}
use Rattle.edn.specs.declared.refusal.Refusal.TheVariants.{NotOpen, NoMemory, Stale}
use Rattle.machine.specs.declared.command.Command.TheVariants.{Nemesis}
use Rattle.board.specs.CoreTape.{CoreReply}
use Rattle.clients.specs.declared.client.Next.{Next}
use Rattle.clients.specs.declared.client.Next.TheVariants.{Draw, End}
use Rattle.clients.specs.Calls.{CoreSeat, Calls, MadeOne, HasMade}
use Rattle.clients.specs.Plays.{Stage, draws, has_ended, Plays, HasPlayed, IsOfRun, AreStrikes}

-- the run is refused for it
abbrev pub RefusesRun : Option Refusal → Type 0
RefusesRun (Some why) = IsOfRun why
RefusesRun None = ⊥

-- that is what follows a refusal
abbrev pub IsAfterRefusal : Refusal → Next → Type 0
IsAfterRefusal NotOpen next = next ≡ Draw
IsAfterRefusal Stale next = next ≡ Draw
IsAfterRefusal why next = next ≡ End (Some why)

-- the client is to do this at this stage; if the run is refused, it ends at any
abbrev pub StandsAt : Stage → Next → Type 0
StandsAt stage Draw = stage ≡ draws
StandsAt stage (End why) = (stage ≡ has_ended) ⊎ RefusesRun why

-- its calls from this stage on led to where it does this next
abbrev pub CameFrom : ℕ → Stage → CoreSeat → CoreSeat → Next → Type 0
CameFrom thread stage old new next =
    (calls : Calls) × HasMade old calls new
    × ((end : Stage) × Plays thread stage calls end × StandsAt end next)

-- each client, with its thread, has played, if none was refused what a run is refused for
pub record HavePlayed {A E : Type 0} (view : A → CoreSeat) (seat_of : E → A) (why_of : E → Option Refusal) (clients : List (ℕ × A)) (all : List E) : Type 0 where
  pub count : length all ≡ length clients
  pub each : (k : ℕ) (d : ℕ × A) (e : E) → k < length clients → why_of (slice_index_or all k e) ≡ None
      → HasPlayed (slice_index_or clients k d).0 (view (slice_index_or clients k d).1) (view (seat_of (slice_index_or all k e)))

-- the nemesis asked for a fault, once, and was not refused what a run is refused for
abbrev pub AsksOnce : CoreSeat → CoreSeat → Type 0
AsksOnce old new =
    (reply : CoreReply) × MadeOne old new Nemesis reply
    × ((why : Refusal) → reply ≡ Err why → ¬ IsOfRun why)

-- it asked so any number of times
abbrev pub GoesOnStriking : CoreSeat → CoreSeat → Type 0
GoesOnStriking old new = (calls : Calls) × HasMade old calls new × AreStrikes calls

-- the first refusal that was met at these places
abbrev pub first_met : List (Option Refusal) → Option Refusal
first_met [] = None
first_met (None ∷ rest) = first_met rest
first_met (Some why ∷ rest) = Some why

-- it is the one that was met at the lowest place; or none was met, and memory ran out
abbrev pub IsLowest : List (Option Refusal) → Refusal → Type 0
IsLowest met why = (first_met met ≡ Some why) ⊎ ((first_met met ≡ None) × (why ≡ NoMemory))
