use Rattle.std.proofs.Common.{◌≡◌, take, map}
use Rattle.linspec.specs.Attempts.{start_of}
use Rattle.linspec.proofs.brute_force.start_states.Given as goal

abbrev pub invariant-loop-entry : goal.invariant-loop-entry
invariant-loop-entry l = l.states.items ≡ map start_of (take l.entry-index l.kinds)
