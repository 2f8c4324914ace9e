use Rattle.std.proofs.Common.{take}
use Rattle.witness.specs.KeyOrders.{AreCallsBy, ids_of}
use Rattle.witness.proofs.answers.calls_by.Given as goal

abbrev pub invariant-loop-position : goal.invariant-loop-position
invariant-loop-position l = AreCallsBy l.events l.statuses (ids_of (take l.position-index l.positions)) l.calls.items
