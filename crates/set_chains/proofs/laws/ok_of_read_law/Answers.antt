use Rattle.set_chains.proofs.OkOfRead.{chained_after_ok_of_read}
use Rattle.set_chains.proofs.laws.ok_of_read_law.Goals as goal

pub returns : goal.returns
returns c marks id op members well invoked name part = chained_after_ok_of_read marks id op members well invoked name part
