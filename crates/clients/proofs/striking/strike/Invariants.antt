-- The seat was that of the nemesis.
use Rattle.clients.specs.Playing.{GoesOnStriking}
use Rattle.clients.proofs.striking.strike.Given as goal

abbrev pub invariant-loop : goal.invariant-loop
invariant-loop g l =
    GoesOnStriking (g.M.SharedBoard.view l.fn.seat) (g.M.SharedBoard.view l.seat)
    × (goal.iterator-loop g).can_next l.iterator' × (goal.iterator-loop g).is_finite l.iterator'
