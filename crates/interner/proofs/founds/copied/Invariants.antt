use Rattle.std.proofs.Common.{◌≡◌, take}
use Rattle.interner.proofs.founds.copied.Given as goal

abbrev pub invariant-loop-found : goal.invariant-loop-found
invariant-loop-found l = l.copy ≡ take l.found-index l.founds
