use Rattle.theorem.proofs.Tapes.{right_tape, kept_tape}
use Rattle.theorem.proofs.laws.tape_law.Goals as goal

pub returns-clause-right : goal.returns-clause-right
returns-clause-right c = right_tape

pub returns-clause-well_formed : goal.returns-clause-well_formed
returns-clause-well_formed c = kept_tape
