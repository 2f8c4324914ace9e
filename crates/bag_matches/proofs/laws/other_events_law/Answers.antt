use Rattle.bag_matches.proofs.Matched.{matched_after_invoke, matched_after_crash, matched_after_fail}
use Rattle.bag_matches.proofs.laws.other_events_law.Goals as goal

pub returns-clause-invoke : goal.returns-clause-invoke
returns-clause-invoke c marks id op well = matched_after_invoke marks id op well

pub returns-clause-info : goal.returns-clause-info
returns-clause-info c marks id well = matched_after_crash marks id well

pub returns-clause-fail : goal.returns-clause-fail
returns-clause-fail c marks id well = matched_after_fail marks id well
