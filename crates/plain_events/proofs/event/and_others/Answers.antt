use Rattle.plain_events.proofs.Told.{any_behind}
use Rattle.plain_events.proofs.event.and_others.Goals as goal

pub returns : goal.returns
returns c = any_behind c.args.index c.args.kind c.args.process c.args.op c.args.rest.now c.of.result c.with_others.result c.of.ensures c.with_others.ensures
