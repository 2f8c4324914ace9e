use Rattle.theorem.proofs.Shown.{shown}
use Rattle.theorem.proofs.laws.confirm_law.Goals as goal

pub returns : goal.returns
returns c = shown
