use Rattle.line_loop.proofs.OneCut.{one_cut_law}
use Rattle.line_loop.proofs.laws.one_cut.Goals as goal

pub returns : goal.returns
returns c = one_cut_law
