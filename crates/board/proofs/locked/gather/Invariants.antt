use Rattle.std.proofs.Common.{◌≡◌, length}
use Rattle.std.specs.List.{All, sum_by}
use mathlib.Core.List.{IsPrefix}
use Rattle.board.proofs.locked.gather.Given as goal

abbrev pub invariant-loop-seat : goal.invariant-loop-seat
invariant-loop-seat g l =
    (goal.iterator-loop-seat g).can_next l.seat-iterator × (goal.iterator-loop-seat g).is_finite l.seat-iterator
    × All (λ s. IsPrefix s.tape l.fn.tape) l.yielded × (l.all.parts ≡ length l.yielded) × (l.all.amount ≡ sum_by (λ s. s.count) l.yielded)
    × (l.calls.total ≡ l.fn.calls.total) × (l.tape ≡ l.fn.tape)
