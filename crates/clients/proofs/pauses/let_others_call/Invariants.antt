-- The seat made no call.
use Rattle.clients.specs.Calls.{MadeNone}
use Rattle.clients.proofs.pauses.let_others_call.Given as goal

abbrev pub invariant-loop : goal.invariant-loop
invariant-loop g l = MadeNone (g.M.SharedBoard.view l.fn.seat) (g.M.SharedBoard.view l.seat)
