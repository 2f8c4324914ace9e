-- moves that are noted by places, each with a stamp
use Rattle.std.proofs.Common.{◌≡◌, ◌⊎◌, ℕ, ◌<◌, true, false, cond, nat_eq, List, map, get_or, inl, inr, ⊎_elim, refl, sym, ap, ◌∙◌, arith, eq-eqb}
use Rattle.std.proofs.Math.ListN.{get_or-map}
use Rattle.std.proofs.lemmas.Bool.{ne_eqb}
use Rattle.moves.specs.declared.moves.Move.TheVariants.{Untried}
use Rattle.moves.specs.declared.notes.Noted.{Noted}
use Rattle.moves.specs.Notes.{AreBefore, AreUntried, known_by, nothing}

-- the move that is known at a place, from the note there
nothing_known : (stamp : ℕ) → known_by stamp nothing ≡ Untried
nothing_known stamp = elim (nat_eq 0 stamp) as (λ b. cond b Untried Untried ≡ Untried) [ true ↦ refl | false ↦ refl ]

known_there : (list : List Noted) (stamp place : ℕ) → get_or (map (known_by stamp) list) place Untried ≡ known_by stamp (get_or list place nothing)
known_there list stamp place = ap (get_or (map (known_by stamp) list) place) (sym (nothing_known stamp)) ∙ get_or-map (known_by stamp) list place nothing

-- nothing, where all was noted before
known_before : (stamp : ℕ) (noted : Noted) → noted.stamp < stamp → known_by stamp noted ≡ Untried
known_before stamp noted before = ap (λ b. cond b noted.to Untried) (ne_eqb noted.stamp stamp (λ same. omega (arith, before, same)))

pub are_untried : (list : List Noted) (stamp : ℕ) → AreBefore list stamp → AreUntried (map (known_by stamp) list)
are_untried list stamp before place = known_there list stamp place ∙ known_before stamp (get_or list place nothing) (before place)

-- one that is noted now
known_now : (noted : Noted) → known_by noted.stamp noted ≡ noted.to
known_now noted = ap (λ b. cond b noted.to Untried) (eq-eqb noted.stamp noted.stamp refl)

pub known_with : (old new : List Noted) (place p : ℕ) (noted : Noted)
    → (get_or new p nothing ≡ get_or old p nothing) ⊎ ((p ≡ place) × (get_or new p nothing ≡ noted))
    → let now = get_or (map (known_by noted.stamp) new) p Untried in
    (now ≡ get_or (map (known_by noted.stamp) old) p Untried) ⊎ ((p ≡ place) × (now ≡ noted.to))
known_with old new place p noted there =
    ⊎_elim
    (λ same. inl (known_there new noted.stamp p ∙ ap (known_by noted.stamp) same ∙ sym (known_there old noted.stamp p)))
    (λ q. inr (q.0, known_there new noted.stamp p ∙ ap (known_by noted.stamp) q.1 ∙ known_now noted))
    there
