use Rattle.theorem.proofs.Commands.{changes, declines}
use Rattle.theorem.proofs.laws.five_commands_law.Goals as goal

pub returns-clause-changes : goal.returns-clause-changes
returns-clause-changes c = changes

pub returns-clause-declines : goal.returns-clause-declines
returns-clause-declines c = declines
