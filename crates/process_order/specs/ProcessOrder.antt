-- Promise: the operations of a process in a history (Herlihy and Wing 1990, section 2). An operation is named by the index of its
-- invocation
use Rattle.std.specs.Prelude.{◌≡◌, ◌⊎◌, ℕ, List, ◌++◌, Some, slice_get, option_and_then}
use Rattle.std.specs.List.{Contains}
use Rattle.processes.specs.MoveRule.Move.{Invokes}
use Rattle.events.specs.declared.event.Event.{Event}
use Rattle.events.specs.Events.{Mark}
use Rattle.events.specs.Events.Mark.{Failed}
use Rattle.history.specs.WellFormed.{move_of}
use Rattle.linspec.specs.Operations.{IsInvoked, HasReturned}

-- process p invokes an operation by the event at index i
abbrev pub InvokesAt : List Event → ℕ → ℕ → Type 0
InvokesAt events p i = option_and_then move_of (slice_get events i) ≡ Some (Invokes p)

-- a is over before the invocation of b: a cut of the history has the return or the fail of a before it, and the invocation of b after it
pub record IsOverBefore (marks : List Mark) (a b : ℕ) : Type 0 where
  pub before : List Mark
  pub after : List Mark
  pub cut : before ++ after ≡ marks
  pub over : HasReturned before a ⊎ Contains before (Failed a)
  pub invoked : IsInvoked after b
