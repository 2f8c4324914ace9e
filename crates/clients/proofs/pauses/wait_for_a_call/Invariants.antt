-- The seat made no call.
use Rattle.clients.specs.Calls.{MadeNone}
use Rattle.clients.proofs.pauses.wait_for_a_call.Given as goal

abbrev pub invariant-loop : goal.invariant-loop
invariant-loop g l =
    MadeNone (g.M.SharedBoard.view l.fn.seat) (g.M.SharedBoard.view l.seat)
    × (goal.iterator-loop g).can_next l.iterator' × (goal.iterator-loop g).is_finite l.iterator'
