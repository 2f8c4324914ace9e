use Rattle.std.proofs.Common.{◌≡◌, ◌+◌, length, vec_capacity}
use Rattle.board.specs.Seat.{IsFresh}
use Rattle.board.proofs.blank.seat_all.Given as goal

abbrev pub invariant-loop-number : goal.invariant-loop-number
invariant-loop-number g l =
    (length l.places.items ≡ l.number) × IsFresh l.published l.places.items × (l.rest.parts + l.number ≡ l.seats) × (l.rest.amount ≡ 0)
    × (vec_capacity l.places ≡ vec_capacity l.fn.places)
