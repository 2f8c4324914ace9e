use Rattle.std.proofs.Common.{◌≡◌, drop}
use Rattle.test_store.specs.Store.{are_below}
use Rattle.test_store.proofs.fault.all_below.Given as goal

abbrev pub invariant-loop-number : goal.invariant-loop-number
invariant-loop-number l = are_below l.n (drop l.number-index l.numbers) ≡ are_below l.n l.numbers
