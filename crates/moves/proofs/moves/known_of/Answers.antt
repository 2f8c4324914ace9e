use Rattle.std.proofs.Common.{get_or, inl, inr, ⊎_elim, sym, ap, ◌∙◌}
use Rattle.moves.specs.declared.moves.Move.TheVariants.{Untried}
use Rattle.moves.proofs.Moving.{from_there}
use Rattle.moves.proofs.moves.known_of.Goals as goal

pub returns : goal.returns
returns c =
    let k = c.args.known.now in
    ⊎_elim
    (λ h. inr (c.noted_at.ensures.noted ∙ ap (λ p. get_or k.list p Untried) h.1 ∙ sym (from_there k.base k.list c.args.call_count c.args.number c.args.at h.0)))
    (λ most. inl (c.noted_at.ensures.behind most))
    c.place_of.ensures
