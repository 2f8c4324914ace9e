use Rattle.events.specs.Events.{marks, of_key}
use Rattle.set_chains.proofs.Legal.{chained_if_linearizable}
use Rattle.set_chains.proofs.Build.{linearizable_if_chained, chained_by_firsts, firsts_make_chained}
use Rattle.set_chains.proofs.laws.chains_law.Goals as goal

pub returns-clause-linearizable : goal.returns-clause-linearizable
returns-clause-linearizable c marks well h = chained_if_linearizable marks well h

pub returns-clause-chained : goal.returns-clause-chained
returns-clause-chained c marks well chained = linearizable_if_chained marks well chained

pub returns-clause-key : goal.returns-clause-key
returns-clause-key c entries k well = (chained_if_linearizable (marks (of_key k entries)) well, linearizable_if_chained (marks (of_key k entries)) well)

pub returns-clause-firsts : goal.returns-clause-firsts
returns-clause-firsts c marks well = (chained_by_firsts marks well, firsts_make_chained marks)
