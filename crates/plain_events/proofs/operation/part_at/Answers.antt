use Rattle.std.proofs.Common.{arith}
use Rattle.std.proofs.lemmas.Int.{ints}
use Rattle.plain_events.proofs.Spelled.{nil_part, pair_by}
use Rattle.plain_events.proofs.Sets.{set_part}
use Rattle.plain_events.proofs.operation.part_at.Goals as goal

pub returns-in-Some : goal.returns-in-Some
returns-in-Some c = nil_part _ _ c.in-Some.ensures

pub returns-in-Some-past_byte : goal.returns-in-Some-past_byte
returns-in-Some-past_byte c = pair_by _ _ _ c.in_ok-a.a c.in_ok-a.b _ _ (grind (arith, ints)) (grind (arith, ints)) c.in-Some-past_byte.ensures c.in_ok-a.ensures

pub returns-in-Some-set_at : goal.returns-in-Some-set_at
returns-in-Some-set_at c = set_part _ _ _ c.in-Some-set_at.ensures
