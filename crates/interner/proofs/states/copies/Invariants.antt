use Rattle.std.proofs.Common.{◌≡◌, take}
use Rattle.interner.proofs.states.copies.Given as goal

abbrev pub invariant-loop-state : goal.invariant-loop-state
invariant-loop-state g l = l.copies.items ≡ take l.state-index l.items
