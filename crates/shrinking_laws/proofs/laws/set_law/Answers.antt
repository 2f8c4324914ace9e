use Rattle.shrinking_laws.proofs.Sets.{IsLinearizable-without_repeated}
use Rattle.shrinking_laws.proofs.SetValues.{IsLinearizable-without_values}
use Rattle.shrinking_laws.proofs.laws.set_law.Goals as goal

pub returns-clause-repeated : goal.returns-clause-repeated
returns-clause-repeated c out marks well are = IsLinearizable-without_repeated marks well out are

pub returns-clause-values : goal.returns-clause-values
returns-clause-values c values out marks are = IsLinearizable-without_values values marks out are
