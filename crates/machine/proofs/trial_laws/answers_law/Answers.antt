use Rattle.machine.proofs.Answering.{answers}
use Rattle.machine.proofs.trial_laws.answers_law.Goals as goal

pub returns : goal.returns
returns c = answers
