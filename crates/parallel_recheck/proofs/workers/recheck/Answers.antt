use Rattle.std.proofs.Common.{◌<◌, ◌∙◌, length, map, sym, arith}
use Rattle.std.proofs.lemmas.List.{length-map}
use Rattle.parallel_recheck.specs.Pieces.{line_of}
use Rattle.parallel_recheck.proofs.Slots.{empty_slots}
use Rattle.parallel_recheck.proofs.workers.recheck.Goals as goal

pub in_order-requires : goal.in_order-requires
in_order-requires g c place lt =
    let lines = map line_of c.args.pieces.now in
    let empty = empty_slots lines (length c.args.pieces.now) c.as_mut_slice-slots.result.now (sym (length-map c.args.pieces.now line_of)) (c.as_mut_slice-slots.ensures.value ∙ c.in_ok-empty.ensures) in
    let filled = c.fill.ensures.slots lines empty c.in_ok-placed.ensures.among in
    let within : place < length c.args.pieces.now = omega (arith, lt, filled.many, length-map c.args.pieces.now line_of) in
    c.fill.ensures.filled place (c.in_ok-placed.ensures.all place within (omega arith))

pub returns : goal.returns
returns g c =
    let lines = map line_of c.args.pieces.now in
    let empty = empty_slots lines (length c.args.pieces.now) c.as_mut_slice-slots.result.now (sym (length-map c.args.pieces.now line_of)) (c.as_mut_slice-slots.ensures.value ∙ c.in_ok-empty.ensures) in
    record { lines = c.in_order.ensures lines (c.fill.ensures.slots lines empty c.in_ok-placed.ensures.among) }
