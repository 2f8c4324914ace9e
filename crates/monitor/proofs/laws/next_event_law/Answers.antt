use Rattle.monitor.proofs.Verdicts.{next_event}
use Rattle.monitor.proofs.laws.next_event_law.Goals as goal

pub returns : goal.returns
returns c = next_event c.process_rule_law.ensures c.key_events_law.ensures.history
