use Rattle.script_command.proofs.KindsInHello.{one_of_kinds}
use Rattle.script_command.proofs.laws.hello_law.Goals as goal

pub returns-clause-clients : goal.returns-clause-clients
returns-clause-clients c = λ n. (λ is. is, λ is. is)

pub returns-clause-events : goal.returns-clause-events
returns-clause-events c = λ events. (λ is. is, λ is. is)

pub returns-clause-budgets : goal.returns-clause-budgets
returns-clause-budgets c = λ n. (λ is. is, λ is. is)

pub returns-clause-kinds : goal.returns-clause-kinds
returns-clause-kinds c = one_of_kinds
