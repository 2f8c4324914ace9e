use Rattle.machine.proofs.OneStep.{step_one}
use Rattle.machine.proofs.laws.one_step.Goals as goal

pub returns : goal.returns
returns c = step_one
