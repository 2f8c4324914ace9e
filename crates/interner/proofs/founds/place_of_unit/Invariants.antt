use Rattle.std.proofs.Common.{◌≢◌, ◌<◌, ℕ, Some, slice_get}
use Rattle.models.specs.declared.finding.Found.TheVariants.{Unit}
use Rattle.interner.proofs.founds.place_of_unit.Given as goal

abbrev pub invariant-loop-at : goal.invariant-loop-at
invariant-loop-at l = (i : ℕ) → i < l.at → slice_get l.items i ≢ Some Unit
