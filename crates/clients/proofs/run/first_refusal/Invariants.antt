-- None of those so far met a refusal of the run.
use Rattle.std.proofs.Common.{◌≡◌, ℕ, ◌<◌, None}
use Rattle.std.specs.Prelude.{slice_index_or}
use Rattle.clients.proofs.run.first_refusal.Given as goal

abbrev pub invariant-loop-ended : goal.invariant-loop-ended
invariant-loop-ended g l = (k : ℕ) (d : _) → k < l.ended-index → (slice_index_or l.played k d).why ≡ None
