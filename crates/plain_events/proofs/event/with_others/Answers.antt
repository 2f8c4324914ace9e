use Rattle.plain_events.proofs.Told.{event_behind}
use Rattle.plain_events.proofs.event.with_others.Goals as goal

pub returns : goal.returns
returns c inner ps at said = event_behind inner c.in_ok-all.all c.in_ok-all.rest.now c.in_ok-event.event (c.in_ok-all.ensures inner ps at said) c.in_ok-event.ensures
