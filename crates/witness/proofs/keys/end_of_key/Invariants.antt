use Rattle.std.proofs.Common.{◌≡◌, ℕ, ◌<◌, ◌≤◌, get_or}
use Rattle.witness.specs.declared.placing.Position.{Position}
use Rattle.witness.proofs.keys.end_of_key.Given as goal

abbrev pub invariant-loop-at : goal.invariant-loop-at
invariant-loop-at l = (i : ℕ) (d : Position) → l.start ≤ i → i < l.at → (get_or l.positions i d).key ≡ (get_or l.positions l.start d).key
