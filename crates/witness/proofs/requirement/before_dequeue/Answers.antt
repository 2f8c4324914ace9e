-- a value that is taken out
use Rattle.std.proofs.Common.{◌∙◌}
use Rattle.witness.proofs.QueueRequirements.{before_any}
use Rattle.witness.proofs.requirement.before_dequeue.Goals as goal

pub returns-in-None-clause-requirement : goal.returns-in-None-clause-requirement
returns-in-None-clause-requirement c = λ call is part answered later after.
    before_any call later is part c.args.requirement (answered ∙ c.in-None.is) after
