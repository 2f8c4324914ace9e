use Rattle.bag_matches.proofs.Matched.{matched_after_enqueue}
use Rattle.bag_matches.proofs.laws.ok_of_enqueue_law.Goals as goal

pub returns : goal.returns
returns c marks id v answer well own matched = matched_after_enqueue marks id answer well v own matched
