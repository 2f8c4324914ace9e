use Rattle.test_store.proofs.Versions.{opening_versions}
use Rattle.machine.proofs.Counting.{served-le, counted_step, few_step}
use Rattle.machine.proofs.laws.counted_law.Goals as goal

pub returns-clause-opening : goal.returns-clause-opening
returns-clause-opening c setup = opening_versions setup.replicas setup.mode setup.kind

pub returns-clause-step : goal.returns-clause-step
returns-clause-step c = counted_step

pub returns-clause-served : goal.returns-clause-served
returns-clause-served c = served-le

pub returns-clause-few : goal.returns-clause-few
returns-clause-few c = few_step
