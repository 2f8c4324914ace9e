use Rattle.std.proofs.Common.{ℕ, ◌<◌}
use Rattle.moves.specs.Tables.{IsOpenAt}
use Rattle.ends.proofs.after.place_of_open.Given as goal

abbrev pub invariant-loop-at : goal.invariant-loop-at
invariant-loop-at l = (i : ℕ) → i < l.at → ¬ IsOpenAt l.calls i l.id
