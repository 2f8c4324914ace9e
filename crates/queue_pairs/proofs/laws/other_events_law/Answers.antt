use Rattle.events.specs.Events.Mark.{Invoked, Crashed}
use Rattle.queue_pairs.proofs.Quiet.{quiet, paired_after_fail}
use Rattle.queue_pairs.proofs.laws.other_events_law.Goals as goal

pub returns-clause-invoke : goal.returns-clause-invoke
returns-clause-invoke c marks id op well = quiet marks (Invoked id op) well (λ n a e. cc) (λ n e. cc)

pub returns-clause-info : goal.returns-clause-info
returns-clause-info c marks id well = quiet marks (Crashed id) well (λ n a e. cc) (λ n e. cc)

pub returns-clause-fail : goal.returns-clause-fail
returns-clause-fail c marks id well late = paired_after_fail marks id well late
