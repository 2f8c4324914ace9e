use Rattle.clients.proofs.Making.{after_others}
use Rattle.clients.proofs.client.after_refusal.Goals as goal

pub returns-in_default : goal.returns-in_default
returns-in_default c = after_others _ c.in_default.not-NotOpen c.in_default.not-Stale
