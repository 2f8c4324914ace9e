-- The piece was taken as far as the rest.
use Rattle.std.proofs.Common.{◌≡◌, ℕ, List, ◌++◌, length}
use Rattle.std.specs.Prelude.{Option}
use Rattle.line_loop.specs.BetweenReads.{between, GoesOn}
use Rattle.line_loop.proofs.session.Session.answer_piece.Given as goal

abbrev pub invariant-loop-front : goal.invariant-loop-front
invariant-loop-front g l =
    let m = g.M.LineMachine in
    (taken : List ℕ) × (l.piece ≡ taken ++ l.rest)
    × ((written : Option (List ℕ)) → GoesOn m.may_reply taken (between m.state l.fn.self written) (between m.state l.self written))

abbrev pub decreases-loop-front : goal.decreases-loop-front
decreases-loop-front g l = length l.rest
