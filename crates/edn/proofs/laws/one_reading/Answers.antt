use Rattle.edn.proofs.Unique.{one_text}
use Rattle.edn.proofs.laws.one_reading.Goals as goal

pub returns : goal.returns
returns c = one_text
