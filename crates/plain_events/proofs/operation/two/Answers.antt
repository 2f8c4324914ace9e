use Rattle.std.proofs.Common.{arith}
use Rattle.std.proofs.lemmas.Int.{ints}
use Rattle.plain_events.proofs.Spelled.{two_by}
use Rattle.plain_events.proofs.operation.two.Goals as goal

pub returns : goal.returns
returns c = two_by c.args.inner.now c.in_ok-a.rest.now c.in_ok-b.rest.now _ c.in_ok-a.a c.in_ok-b.b _ _ (grind (arith, ints)) (grind (arith, ints)) c.in_ok-a.ensures c.in_ok-b.ensures c.in_ok-rest.ensures
