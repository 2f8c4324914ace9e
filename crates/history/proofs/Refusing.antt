-- The refusals of the tests are refusals of the event
use Rattle.std.proofs.Common.{ℕ, List}
use Rattle.edn.specs.declared.refusal.Refusal.{Refusal}
use Rattle.edn.specs.declared.refusal.Refusal.TheVariants.{NoMemory}
use Rattle.events.specs.declared.event.Event.{Event}
use Rattle.history.specs.WellFormed.{Refuses, MayRefuse}

pub may_refuse : (c : ℕ) (events : List Event) (e : Event) (why : Refusal) → Refuses c events e why → MayRefuse c events e why
may_refuse c events e NoMemory h = tt
may_refuse c events e _ h = h
