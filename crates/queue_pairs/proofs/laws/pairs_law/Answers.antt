use Rattle.events.specs.Events.{marks, of_key}
use Rattle.queue_pairs.proofs.Legal.{paired_if_linearizable}
use Rattle.queue_pairs.proofs.Build.{linearizable_if_paired}
use Rattle.queue_pairs.proofs.laws.pairs_law.Goals as goal

pub returns-clause-linearizable : goal.returns-clause-linearizable
returns-clause-linearizable c marks well late h = paired_if_linearizable marks well late h

pub returns-clause-paired : goal.returns-clause-paired
returns-clause-paired c marks well late paired = linearizable_if_paired marks well late paired

pub returns-clause-key : goal.returns-clause-key
returns-clause-key c entries k well late = (paired_if_linearizable (marks (of_key k entries)) well late, linearizable_if_paired (marks (of_key k entries)) well late)
