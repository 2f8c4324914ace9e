use Rattle.set_chains.proofs.Oks.{chained_after_ok_of_add}
use Rattle.set_chains.proofs.laws.ok_of_add_law.Goals as goal

pub returns : goal.returns
returns c marks id v answer well own chained = chained_after_ok_of_add marks id answer well v own chained
