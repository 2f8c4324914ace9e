use Rattle.std.proofs.Common.{sym}
use Rattle.linspec.proofs.Steps.{outcomes_are, no_outcomes}
use Rattle.linspec.proofs.brute_force.outcomes_in.Goals as goal

pub returns-in-Some : goal.returns-in-Some
returns-in-Some c = outcomes_are c.args.states.now c.args.op.now c.in-Some.state.now (sym c.in-Some.ensures) c.apply.result c.apply.ensures

pub returns-in-None : goal.returns-in-None
returns-in-None c = no_outcomes c.args.states.now c.args.op.now c.new.result.items (sym c.in-None.ensures) c.new.ensures.items
