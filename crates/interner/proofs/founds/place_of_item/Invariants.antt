use Rattle.std.proofs.Common.{◌≢◌, ◌<◌, ◌≤◌, ◌+◌, ℕ, Some, slice_get}
use Rattle.models.specs.declared.finding.Found.TheVariants.{Item}
use Rattle.interner.proofs.founds.place_of_item.Given as goal

abbrev pub invariant-loop-behind : goal.invariant-loop-behind
invariant-loop-behind l = (i : ℕ) → l.few ≤ i + l.behind → i < l.few → slice_get l.items i ≢ Some (Item l.value)
