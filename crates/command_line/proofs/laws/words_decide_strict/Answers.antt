use Rattle.command_line.proofs.Strict.{decided}
use Rattle.command_line.proofs.laws.words_decide_strict.Goals as goal

pub returns : goal.returns
returns c = decided
