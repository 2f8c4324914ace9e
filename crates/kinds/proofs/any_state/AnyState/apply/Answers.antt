use Rattle.kinds.proofs.AnyStates.{outcomes-own}
use Rattle.kinds.proofs.any_state.AnyState.apply.Goals as goal

pub returns : goal.returns
returns c = outcomes-own c.args.self.now c.args.op.now c.outcomes.result c.outcomes.ensures
