use Rattle.std.proofs.Common.{refl}
use Rattle.plain_events.proofs.Told.{further_added}
use Rattle.plain_events.proofs.found.Found.put_further.Goals as goal

pub returns : goal.returns
returns c = further_added c.args.text.now c.in_ok-value.value.now c.args.self.now _ c.in_ok-value.ensures.0 c.past_value.result c.in_ok-value.ensures.1 c.in_ok-value.ensures.2 refl c.past_value.ensures
