use Rattle.std.proofs.Common.{◌≡◌, drop}
use Rattle.edn.specs.View.{entries_of}
use Rattle.edn.specs.Parts.{value_at}
use Rattle.edn.proofs.value.value_at.Given as goal

abbrev pub invariant-loop-pair : goal.invariant-loop-pair
invariant-loop-pair l = value_at l.name (entries_of l.pairs) ≡ value_at l.name (entries_of (drop l.pair-index l.pairs))
