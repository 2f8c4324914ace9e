use Rattle.theorem.proofs.Listed.{judged, refused, well_formed}
use Rattle.theorem.proofs.Statuses.{says, legal, illegal}
use Rattle.theorem.proofs.laws.check_law.Goals as goal

pub returns-clause-judged : goal.returns-clause-judged
returns-clause-judged c = judged

pub returns-clause-refused : goal.returns-clause-refused
returns-clause-refused c = refused

pub returns-clause-well_formed : goal.returns-clause-well_formed
returns-clause-well_formed c = well_formed

pub returns-clause-says : goal.returns-clause-says
returns-clause-says c = says

pub returns-clause-legal : goal.returns-clause-legal
returns-clause-legal c = legal

pub returns-clause-illegal : goal.returns-clause-illegal
returns-clause-illegal c = illegal
