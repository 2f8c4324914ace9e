use Rattle.std.proofs.Common.{◌≡◌, ◌∷◌, [], length, refl, ap, sym, ◌∙◌, subst}
use Rattle.board.specs.Tape.{IsLegalTape}
use Rattle.board.specs.TapeRule.{tape_of, next_of}
use Rattle.board.specs.Seat.{IsFresh}
use Rattle.board.specs.declared.tape.TapeEntry.TheVariants.{Opening}
use Rattle.board.proofs.blank.Blank.into_board.Goals as goal

pub opened-tape-requires-clause-tape : goal.opened-tape-requires-clause-tape
opened-tape-requires-clause-tape g c =
    let state = g.X.OneThread.state c.args.self.object in
    let opens : tape_of g.B.Tag.word.key c.args.self.seen.log ≡ Opening state ∷ [] = ap (λ w. tape_of w.key c.args.self.seen.log) (sym c.requires.names.0) ∙ c.args.self.opens in
    (ap length opens, subst (IsLegalTape g.X.OneThread.replies) (sym opens) (state, refl))

pub opened-tape-requires-clause-pen : goal.opened-tape-requires-clause-pen
opened-tape-requires-clause-pen g c =
    let on = c.args.self.goes_on in
    (on.1, ap (λ w. next_of w.key c.args.self.seen.log) (sym c.requires.names.0) ∙ on.2)

pub returns-clause-fresh : goal.returns-clause-fresh
returns-clause-fresh g c =
    let all = c.new-published.ensures ∙ c.seen-first.ensures ∙ (c.opened-tape.ensures ∙ (ap (λ w. tape_of w.key c.args.self.seen.log) (sym c.requires.names.0) ∙ c.args.self.opens)) in
    subst (λ l. IsFresh l c.seat_all.new.places.items) all c.in_default.ensures.fresh
