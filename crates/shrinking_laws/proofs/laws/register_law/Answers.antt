use Rattle.shrinking_laws.proofs.Registers.{IsLinearizable-without_finders, IsLinearizable-without_finders_cas, by_values}
use Rattle.shrinking_laws.proofs.laws.register_law.Goals as goal

pub returns-clause-register : goal.returns-clause-register
returns-clause-register c out marks = IsLinearizable-without_finders marks out

pub returns-clause-cas_register : goal.returns-clause-cas_register
returns-clause-cas_register c out marks = IsLinearizable-without_finders_cas marks out

pub returns-clause-values : goal.returns-clause-values
returns-clause-values c out marks well by = IsLinearizable-without_finders marks out well (by_values marks out by)

pub returns-clause-cas_values : goal.returns-clause-cas_values
returns-clause-cas_values c out marks well by = IsLinearizable-without_finders_cas marks out well (by_values marks out by)
