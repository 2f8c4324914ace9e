use Rattle.history.proofs.ProcessRule.{is_history}
use Rattle.history.proofs.laws.process_rule_law.Goals as goal

pub returns : goal.returns
returns c = is_history
