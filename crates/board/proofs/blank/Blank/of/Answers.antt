use Rattle.std.proofs.Common.{◌==◌, ap, refl, sym, ◌∙◌}
use prog.Atomic.{either}
use Rattle.board.specs.declared.tape.TapeEntry.TheVariants.{Opening}
use Rattle.board.specs.TapeRule.{line}
use Rattle.board.proofs.TapeSteps.{opens_moves}
use Rattle.board.proofs.blank.Blank.of.Goals as goal

pub compare_exchange-requires : goal.compare_exchange-requires
compare_exchange-requires g c =
    let ground = c.tracked-ground.ensures.0 in
    let opened = c.open-seen.ensures in
    let offer = c.plain-offer-3.ensures in
    let pen = c.new_cell-word.ensures.pen in
    let nib = c.new_cell-word.result.1.nib in
    let book = ap (λ w. w.book) ground ∙ opened.2 in
    let e = line nib.key c.new_cell-word-2.result.1.nib.key (Opening (g.X.OneThread.state c.args.object)) in (
      ap (λ w. w.tracked) ground,
      sym book,
      pen.0 ∙ sym book,
      offer.0,
      rw (ap (λ w. w.key) ground, ap (λ n. n.key) opened.4, offer.1, offer.3) (opens_moves (λ n. either (n == 0) 0 n) nib c.open-seen.result.0.log e pen.1 refl),
    )
