use Rattle.confirm_command.proofs.OneAnswer.{one_history, one_order, one_answer_law}
use Rattle.confirm_command.proofs.laws.one_answer.Goals as goal

pub returns-clause-history : goal.returns-clause-history
returns-clause-history c = one_history

pub returns-clause-order : goal.returns-clause-order
returns-clause-order c = one_order

pub returns-clause-answer : goal.returns-clause-answer
returns-clause-answer c = one_answer_law
