use Rattle.std.proofs.Common.{◌≡◌, ◌⊎◌, ⊎_elim, get_or, subst, arith}
use Rattle.moves.specs.declared.moves.Move.TheVariants.{Untried}
use Rattle.moves.proofs.Moving.{from_with}
use Rattle.moves.proofs.moves.remember.Goals as goal

pub returns : goal.returns
returns c n b less =
    let k = c.args.known.now in
    let new = c.note.new.self in
    ⊎_elim
    (λ h. from_with k.base k.list new c.args.call_count c.args.number c.args.at c.args.to c.requires.within h.0
    (λ p. subst (λ q. (get_or new p Untried ≡ get_or k.list p Untried) ⊎ ((p ≡ q) × (get_or new p Untried ≡ c.args.to))) h.1 (c.note.ensures p)) n b less)
    (λ most. absurd (omega (arith, most)))
    c.place_of-place.ensures
