use Rattle.std.proofs.Common.{◌≡◌, take}
use Rattle.linspec.specs.Attempts.{with_state}
use Rattle.linspec.proofs.brute_force.states_with.Given as goal

abbrev pub invariant-loop-entry : goal.invariant-loop-entry
invariant-loop-entry l = l.after.items ≡ with_state (take l.entry-index l.states) l.key l.state
