-- A refusal of the object is a refusal of the board.
use Rattle.std.proofs.Common.{ℕ}
use Rattle.edn.specs.declared.refusal.Refusal.{Refusal}
use Rattle.edn.specs.declared.refusal.Refusal.TheVariants.{Busy, WrongProcess, NotOpen, Mismatch, BadValue, BadIndex, HistoryFull, NoSuchIndex, BadBudget, BadConcurrency, Unreadable, TapeFull, NoMemory, Idle, NotServed, AlreadyServed, Stale, NoSuchReplica, NoSeat, ReadFailed, WriteFailed, TooLong}
use Rattle.harness.specs.declared.config.Config.{Config}
use Rattle.harness.specs.Setups.{setup_of, MayNotOpen}
use Rattle.board.specs.CoreTape.{MayNotBegin}

pub not_begin : (config : Config) (seats : ℕ) (why : Refusal) → MayNotOpen (setup_of config) why → MayNotBegin config seats why
not_begin config seats Busy given = given
not_begin config seats WrongProcess given = given
not_begin config seats NotOpen given = given
not_begin config seats Mismatch given = given
not_begin config seats BadValue given = given
not_begin config seats BadIndex given = given
not_begin config seats HistoryFull given = given
not_begin config seats NoSuchIndex given = given
not_begin config seats BadBudget given = given
not_begin config seats BadConcurrency given = given
not_begin config seats (Unreadable place) given = given
not_begin config seats TapeFull given = given
not_begin config seats NoMemory given = given
not_begin config seats Idle given = given
not_begin config seats NotServed given = given
not_begin config seats AlreadyServed given = given
not_begin config seats Stale given = given
not_begin config seats NoSuchReplica given = given
not_begin config seats NoSeat given = absurd given
not_begin config seats ReadFailed given = given
not_begin config seats WriteFailed given = given
not_begin config seats TooLong given = given
