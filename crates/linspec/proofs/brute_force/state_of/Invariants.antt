use Rattle.std.proofs.Common.{◌≡◌, drop}
use Rattle.linspec.specs.Attempts.{state_at}
use Rattle.linspec.proofs.brute_force.state_of.Given as goal

abbrev pub invariant-loop-entry : goal.invariant-loop-entry
invariant-loop-entry l = state_at l.states l.key ≡ state_at (drop l.entry-index l.states) l.key
