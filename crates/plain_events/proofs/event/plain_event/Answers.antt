use Rattle.plain_events.proofs.Spelled.{any_begins}
use Rattle.plain_events.proofs.Told.{any_closed}
use Rattle.plain_events.proofs.event.plain_event.Goals as goal

pub returns-in-Some : goal.returns-in-Some
returns-in-Some c =
    let map = c.in-Some.ensures in
    any_begins c.args.text.now c.past_lines-front.result.now map.inner c.closed.result (c.past_lines-front.ensures 0) map.brace
    (any_closed map.inner _ _ _ _ _ c.closed.result map.pairs_at c.closed.ensures)

pub returns : goal.returns
returns c = any_begins c.args.text.now c.past_lines-front.result.now c.in_ok-inner.inner.now c.pair_by_pair.result (c.past_lines-front.ensures 0) c.in_ok-inner.ensures c.pair_by_pair.ensures
