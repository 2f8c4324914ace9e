use Rattle.std.proofs.Common.{◌∷◌, [], length, refl, ap, ◌∙◌, arith, length-append}
use Rattle.board.specs.declared.seat.SeatView.{SeatView}
use Rattle.board.proofs.Seating.{fresh_on}
use Rattle.board.proofs.blank.seat_all.Goals as goal

pub loop-number-preserved : goal.loop-number-preserved
loop-number-preserved g c =
    let inv = c.loop-number.invariant in
    let items = c.push_reserved.ensures.items in
    let page = c.args.published.now in
    let old = c.loop-number.places.items in
    let x : SeatView g.row.X-State.Denot g.row.X-Command.Denot g.row.X-Reply.Denot = record { number = c.loop-number.number; count = c.split_off-share.result.amount; tape = c.again.result } in
    let share = c.split_off-share.ensures in (
      omega (arith, ap length items, length-append old (x ∷ []), inv.0),
      fresh_on page old _ c.loop-number.number x items inv.1 inv.0 (refl, share.amount, c.again.ensures),
      omega (arith, share.parts_left, inv.2),
      omega (arith, share.amount_left, inv.3),
      c.push_reserved.ensures.capacity ∙ inv.4,
    )
