use Rattle.events.proofs.KeyEvents.{IsHistory-events_of_key, entries_of-events_of_key}
use Rattle.events.proofs.laws.key_events_law.Goals as goal

pub returns-clause-history : goal.returns-clause-history
returns-clause-history c = IsHistory-events_of_key

pub returns-clause-entries : goal.returns-clause-entries
returns-clause-entries c = entries_of-events_of_key
