use Rattle.history.proofs.OneRefusal.{refusal_one, well_formed_stands}
use Rattle.history.proofs.laws.one_refusal.Goals as goal

pub returns-clause-refusal : goal.returns-clause-refusal
returns-clause-refusal c = refusal_one

pub returns-clause-taken : goal.returns-clause-taken
returns-clause-taken c = well_formed_stands
