use Rattle.std.proofs.Common.{◌≡◌, take}
use Rattle.events.specs.Events.{indexed_from, events_of_key}
use Rattle.history.proofs.history.History.events_of.Given as goal

abbrev pub invariant-loop-i : goal.invariant-loop-i
invariant-loop-i l = l.found.items ≡ events_of_key l.key (indexed_from 0 (take l.i l.events))
