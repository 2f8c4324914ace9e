-- the facts about an operation in the entries of an end
use Rattle.std.proofs.Common.{◌≡◌, ◌≢◌, ℕ, zero, suc, ◌+◌, ◌<◌, ◌≤◌, arith, Some, None, List, [], ◌∷◌, length, get_or, drop, refl, sym, ap, ◌∙◌, subst, add-one, drop-cons}
use Rattle.std.specs.Ordering.{nat_cmp}
use Rattle.std.specs.FinMap as finmap
use Rattle.models.specs.declared.finding.Found.{Found}
use Rattle.linspec.proofs.FinLaws.{get-insert_same, get-insert_other}
use Rattle.moves.specs.KeptEnds.{pending_in, found_at}

-- looking through the entries
pub found_here : (entries : List (ℕ × Found)) (i id : ℕ) (x : ℕ × Found) → i < length entries → x ≡ get_or entries i x → x.0 ≡ id → found_at entries id ≡ found_at (drop i entries) id → found_at entries id ≡ Some x.1
found_here entries i id x l is q so_far =
    so_far ∙ ap (λ xs. found_at xs id) (drop-cons entries i x l) ∙ ap (λ (y : ℕ × Found). found_at (y ∷ drop (suc i) entries) id) (sym is) ∙ subst (λ j. found_at (x ∷ drop (suc i) entries) j ≡ Some x.1) q (get-insert_same (pending_in (drop (suc i) entries)) x.0 x.1)

pub found_later : (entries : List (ℕ × Found)) (i id : ℕ) (x : ℕ × Found) → i < length entries → x ≡ get_or entries i x → x.0 ≢ id → found_at entries id ≡ found_at (drop i entries) id → found_at entries id ≡ found_at (drop (i + 1) entries) id
found_later entries i id x l is ne so_far =
    so_far ∙ ap (λ xs. found_at xs id) (drop-cons entries i x l) ∙ ap (λ (y : ℕ × Found). found_at (y ∷ drop (suc i) entries) id) (sym is)
    ∙ get-insert_other (pending_in (drop (suc i) entries)) x.0 x.1 id (λ q. ne (sym q)) ∙ ap (λ j. found_at (drop j entries) id) (sym (add-one i))

pub found_nowhere : (entries : List (ℕ × Found)) (i id : ℕ) → length entries ≤ i → found_at entries id ≡ found_at (drop i entries) id → None ≡ found_at entries id
found_nowhere entries i id l so_far = sym (so_far ∙ ap (λ xs. found_at xs id) (drop-all entries i l) ∙ finmap.get-empty {X = Found} nat_cmp id)
  where
    drop-all : (xs : List (ℕ × Found)) (n : ℕ) → length xs ≤ n → drop n xs ≡ []
    drop-all [] zero h = refl
    drop-all [] (suc n) h = refl
    drop-all (x ∷ xs) zero h = absurd (omega arith)
    drop-all (x ∷ xs) (suc n) h = drop-all xs n (omega arith)
