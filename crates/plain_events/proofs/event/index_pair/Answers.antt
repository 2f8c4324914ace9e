use Rattle.plain_events.proofs.event.index_pair.Goals as goal

pub returns : goal.returns
returns c = (record { behind = c.in-Some.value.now; key = c.in-Some.ensures 1; value = c.in_ok-index.ensures.atom 1 }, c.in_ok-index.ensures.below)
