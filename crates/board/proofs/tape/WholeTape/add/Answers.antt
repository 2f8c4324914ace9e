use Rattle.std.proofs.Common.{◌==◌, ◌+◌, ◌<◌, ◌^◌, ◌++◌, ◌∷◌, [], length, ap, sym, ◌∙◌, subst, arith, length-append}
use mathlib.Core.List.{IsPrefix}
use prog.Atomic.{either}
use Rattle.board.specs.Tape.{IsLegalTape}
use Rattle.board.specs.TapeRule.{tape_of, line, entry_of, IsHome}
use Rattle.board.proofs.TapeSteps.{stays, adds_moves, added}
use Rattle.board.proofs.tape.WholeTape.add.Goals as goal

pub new_cell-word-requires-clause-word : goal.new_cell-word-requires-clause-word
new_cell-word-requires-clause-word g c =
    let h = c.args.tape_length.now.word_is in
    let inv = c.self.invariant in (
      h.1,
      ap (λ w. w.book) h.0 ∙ sym inv.2,
      λ cells log kept pre. subst (IsHome cells) (sym (ap (λ w. w.key) h.0)) (stays g.B.Tag.word.key c.self.inside.pen.nib.key c.self.inside.seen.log inv.6 cells log kept pre),
    )

pub compare_exchange-self-inside-requires : goal.compare_exchange-self-inside-requires
compare_exchange-self-inside-requires g c =
    let h = c.args.tape_length.now.word_is in
    let offer = c.plain-offer-2.ensures in
    let inv = c.self.invariant in
    let t = c.self.inside.seen.log in
    let count = c.self.inside.count in
    let e = line g.B.Tag.word.key c.new_cell-word.result.1.nib.key (entry_of c.args.entry) in
    let pre : IsPrefix t c.learn.new.self.log = subst (λ l. IsPrefix l c.learn.new.self.log) (ap (λ s. s.log) c.again-both.ensures) c.learn.ensures.2 in (
      h.1,
      c.learn.ensures.0 ∙ (ap (λ s. s.book) c.again-both.ensures ∙ (inv.2 ∙ sym (ap (λ w. w.book) h.0))),
      inv.4 ∙ sym (ap (λ w. w.book) h.0),
      offer.0,
      rw (ap (λ w. w.key) h.0, offer.1, offer.3) (adds_moves (λ n. either (n == count) (count + 1) n) c.self.inside.pen.nib t c.learn.new.self.log e count (count + 1) inv.5 pre inv.6 inv.0),
    )

pub invariant_of-self : goal.invariant_of-self
invariant_of-self g c =
    let inv = c.self.invariant in
    let t = c.self.inside.seen.log in
    let both = c.learn.new.self.log in
    let key = g.B.Tag.word.key in
    let new = c.compare_exchange-self-inside.new.seen.log in
    let entry = entry_of c.args.entry in
    let e = line key c.new_cell-word.result.1.nib.key entry in
    let pre : IsPrefix t both = subst (λ l. IsPrefix l both) (ap (λ s. s.log) c.again-both.ensures) c.learn.ensures.2 in
    let done = added t c.seen.inside.seen.log both new c.plain-offer-2.result.ask e c.self.inside.count c.plain-offer-2.ensures.1 pre c.learn.ensures.3 inv.0 c.compare_exchange-self-inside.ensures.7 in
    let may : IsLegalTape g.X.OneThread.replies (tape_of key t ++ entry ∷ []) = rw c.self.view_is c.requires.legal in
    let room : c.self.inside.count + 1 < 2 ^ 32 = let r = c.requires.room in let v = ap length c.self.view_is in omega (arith, inv.0) in (
      omega (arith, ap length done.0, length-append (tape_of key t) (entry ∷ []), inv.0),
      room,
      c.compare_exchange-self-inside.ensures.0 ∙ (c.learn.ensures.0 ∙ (ap (λ s. s.book) c.again-both.ensures ∙ inv.2)),
      subst (λ l. IsLegalTape g.X.OneThread.replies l) (sym done.0) may,
      c.new_cell-word.ensures.pen.0 ∙ inv.2,
      c.new_cell-word.ensures.pen.1,
      done.1,
    )

pub returns-clause-added : goal.returns-clause-added
returns-clause-added g c =
    let t = c.self.inside.seen.log in
    let both = c.learn.new.self.log in
    let new = c.compare_exchange-self-inside.new.seen.log in
    let e = line g.B.Tag.word.key c.new_cell-word.result.1.nib.key (entry_of c.args.entry) in
    let pre : IsPrefix t both = subst (λ l. IsPrefix l both) (ap (λ s. s.log) c.again-both.ensures) c.learn.ensures.2 in
    let done = added t c.seen.inside.seen.log both new c.plain-offer-2.result.ask e c.self.inside.count c.plain-offer-2.ensures.1 pre c.learn.ensures.3 c.self.invariant.0 c.compare_exchange-self-inside.ensures.7 in
    rw (← c.self.view_is) done.0

pub returns-clause-begins : goal.returns-clause-begins
returns-clause-begins g c =
    let t = c.self.inside.seen.log in
    let both = c.learn.new.self.log in
    let new = c.compare_exchange-self-inside.new.seen.log in
    let e = line g.B.Tag.word.key c.new_cell-word.result.1.nib.key (entry_of c.args.entry) in
    let pre : IsPrefix t both = subst (λ l. IsPrefix l both) (ap (λ s. s.log) c.again-both.ensures) c.learn.ensures.2 in
    let done = added t c.seen.inside.seen.log both new c.plain-offer-2.result.ask e c.self.inside.count c.plain-offer-2.ensures.1 pre c.learn.ensures.3 c.self.invariant.0 c.compare_exchange-self-inside.ensures.7 in
    rw (← c.self.view_is, ← c.seen.view_is) done.2
