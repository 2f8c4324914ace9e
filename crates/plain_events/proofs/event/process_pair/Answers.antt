use Rattle.std.proofs.Common.{codes, ℕ}
use Rattle.events.specs.EventMap.{number}
use Rattle.plain_events.proofs.Words.{pair_from}
use Rattle.plain_events.proofs.event.process_pair.Goals as goal

pub returns-clause-pair : goal.returns-clause-pair
returns-clause-pair c = pair_from (λ (n : ℕ). number n) _ _ (codes "process") c.number.result c.in_ok-value.ensures c.number.ensures.atom
