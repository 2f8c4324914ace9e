use Rattle.std.proofs.Common.{◌≡◌, ℕ, ◌<◌, true, false, get_or}
use Rattle.witness.specs.Statuses.{status_at}
use Rattle.witness.specs.Placing.{MustBeInOrder}
use Rattle.witness.proofs.placing.left_out.Given as goal

abbrev pub invariant-loop-id : goal.invariant-loop-id
invariant-loop-id l = (k : ℕ) → k < l.id → MustBeInOrder (status_at l.statuses k) → get_or l.taken k false ≡ true
