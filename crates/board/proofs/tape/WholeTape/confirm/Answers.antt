use Rattle.std.proofs.Common.{◌==◌, ap, sym, ◌∙◌, subst}
use mathlib.Core.List.{IsPrefix}
use prog.Atomic.{either}
use Rattle.board.specs.declared.tape.TapeEntry.TheVariants.{Opening}
use Rattle.board.specs.TapeRule.{line}
use Rattle.board.proofs.TapeSteps.{confirms_moves, confirmed}
use Rattle.board.proofs.tape.WholeTape.confirm.Goals as goal

pub compare_exchange-requires : goal.compare_exchange-requires
compare_exchange-requires g c =
    let h = c.args.tape_length.now.word_is in
    let offer = c.plain-offer.ensures in
    let inv = c.self.invariant in
    let t = c.self.inside.seen.log in
    let count = c.self.inside.count in
    let e = line g.B.Tag.word.key 0 (Opening (g.X.OneThread.state c.args.object.now)) in
    let pre : IsPrefix t c.learn.new.self.log = subst (λ l. IsPrefix l c.learn.new.self.log) (ap (λ s. s.log) c.again-both.ensures) c.learn.ensures.2 in (
      h.1,
      c.learn.ensures.0 ∙ (ap (λ s. s.book) c.again-both.ensures ∙ (inv.2 ∙ sym (ap (λ w. w.book) h.0))),
      inv.4 ∙ sym (ap (λ w. w.book) h.0),
      offer.0,
      rw (ap (λ w. w.key) h.0, offer.1, offer.3) (confirms_moves (λ n. either (n == count) count n) c.self.inside.pen.nib t c.learn.new.self.log e count count inv.5 pre inv.6 inv.0),
    )

pub returns-clause-begins : goal.returns-clause-begins
returns-clause-begins g c =
    let both = c.learn.new.self.log in
    let t = c.self.inside.seen.log in
    let e = line g.B.Tag.word.key 0 (Opening (g.X.OneThread.state c.args.object.now)) in
    let pre : IsPrefix t both = subst (λ l. IsPrefix l both) (ap (λ s. s.log) c.again-both.ensures) c.learn.ensures.2 in
    let done = confirmed t c.seen.inside.seen.log both c.plain-offer.result.ask e c.self.inside.count c.plain-offer.ensures.1 pre c.learn.ensures.3 c.self.invariant.0 c.compare_exchange.ensures.7.0 in
    rw (← c.self.view_is, ← c.seen.view_is) done.1
