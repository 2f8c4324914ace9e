-- The client has come from its first draw to where it does this next.
use Rattle.clients.specs.Plays.{draws}
use Rattle.clients.specs.Playing.{CameFrom}
use Rattle.clients.proofs.client.play.Given as goal

abbrev pub invariant-loop : goal.invariant-loop
invariant-loop g l =
    CameFrom l.thread draws (g.M.SharedBoard.view l.fn.seat) (g.M.SharedBoard.view l.seat) l.next
    × (goal.iterator-loop g).can_next l.iterator' × (goal.iterator-loop g).is_finite l.iterator'
