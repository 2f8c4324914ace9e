use Rattle.linspec.proofs.BlownQueue.{blown_at_four, within_five}
use Rattle.linspec.proofs.laws.blown_index_law.Goals as goal

pub returns-clause-four : goal.returns-clause-four
returns-clause-four c = blown_at_four

pub returns-clause-five : goal.returns-clause-five
returns-clause-five c = within_five
