use Rattle.std.proofs.Common.{◌==◌, ap, sym, ◌∙◌, subst}
use prog.Atomic.{either}
use Rattle.board.specs.TapeRule.{StaysHome}
use Rattle.board.proofs.TapeSteps.{makes_moves}
use Rattle.board.proofs.tape_rule.new_cell.Goals as goal

pub compare_exchange-requires : goal.compare_exchange-requires
compare_exchange-requires g c =
    let word = c.requires.word in
    let same = c.again-seen.ensures in
    let pen = c.no_pen-pen.ensures in
    let key = c.args.word.now.key in (
      word.0,
      ap (λ s. s.book) same ∙ sym word.1,
      pen.0 ∙ (ap (λ s. s.book) same ∙ sym word.1),
      c.requires.offer.0 ∙ sym (ap (λ s. s.names) same),
      rw (pen.1, c.requires.offer.1) (makes_moves (λ n. either (n == 0) 0 n) key c.again-seen.result.log c.args.offer.ask (subst (λ l. StaysHome l key) (sym (ap (λ s. s.log) same)) word.2)),
    )
