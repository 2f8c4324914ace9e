use Rattle.std.proofs.Common.{◌≡◌, ◌∷◌, IsTrue, refl, arith}
use Rattle.plain_events.proofs.Spelled.{map_behind}
use Rattle.plain_events.proofs.event.closed.Goals as goal

pub returns : goal.returns
returns c inner usual =
    let last : c.args.text.now ≡ 125 ∷ c.in_ok-last.behind.now = grind arith in
    let on : IsTrue c.is_part_of.result = cc in
    map_behind inner _ _ _ _ c.args.text.now c.in_ok-last.behind.now _ usual last (record { event = refl; fits = c.is_part_of.ensures.0 on })
