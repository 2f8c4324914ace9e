use Rattle.plain_events.proofs.Spelled.{value_at}
use Rattle.plain_events.proofs.operation.value_pair.Goals as goal

pub returns : goal.returns
returns c =
    value_at _ c.in_ok-value.value.now c.in_ok-inner.inner.now c.in_ok-key.rest.now c.in_ok-part.rest.now _ c.in_ok-key.key c.in_ok-part.part
    c.in_ok-value.ensures c.in_ok-inner.ensures c.in_ok-key.ensures.atom c.in_ok-key.ensures.below c.in_ok-part.ensures c.in_ok-rest.ensures
