use Rattle.events.specs.Events.{marks, of_key}
use Rattle.bag_matches.proofs.Matching.{matched_is}
use Rattle.bag_matches.proofs.BadPrefixes.{matched_if_linearizable, linearizable_if_matched}
use Rattle.bag_matches.proofs.laws.matches_law.Goals as goal

pub returns-clause-linearizable : goal.returns-clause-linearizable
returns-clause-linearizable c marks well h = matched_if_linearizable marks well h

pub returns-clause-matched : goal.returns-clause-matched
returns-clause-matched c marks well matched = linearizable_if_matched marks well matched

pub returns-clause-balanced : goal.returns-clause-balanced
returns-clause-balanced c marks well = matched_is marks well

pub returns-clause-key : goal.returns-clause-key
returns-clause-key c entries k well = (matched_if_linearizable (marks (of_key k entries)) well, linearizable_if_matched (marks (of_key k entries)) well)
