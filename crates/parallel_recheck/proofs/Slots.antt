-- lines in their places
use Rattle.std.proofs.Common.{◌≡◌, ◌≢◌, ◌⊎◌, inl, inr, ℕ, zero, suc, ◌+◌, ◌<◌, ⊎_elim, Option, Some, None, unwrap_or, List, [], ◌∷◌, ◌++◌, length, take, replicate, slice_get, slice_set, refl, sym, ap, ◌∙◌, subst, arith}
use Rattle.std.specs.List.{Contains}
use Rattle.std.proofs.lemmas.Bool.{cases_eq}
use Rattle.std.proofs.lemmas.List.{length-set, length-replicate, take_more}
use Rattle.std.proofs.lemmas.List.Elements.{Contains-push_cases}
use Rattle.std.proofs.lemmas.Option.{slice_get_within, get_or_from_slice_get}
use Rattle.checkpoints.specs.KeyLineView.{KeyLineView}
use Rattle.parallel_recheck.specs.declared.workers.Placed.{Placed}
use Rattle.parallel_recheck.specs.Placed.{HasPlace, AreSlotsOf, IsFilled}

-- one line more
pub line_more : (lines : List KeyLineView) (i : ℕ) (line : KeyLineView) → slice_get lines i ≡ Some line → take (i + 1) lines ≡ take i lines ++ line ∷ []
line_more lines i line is =
    take_more lines i line (slice_get_within lines i line is)
    ∙ ap (λ x. take i lines ++ x ∷ []) (get_or_from_slice_get lines i line line is)

set_here : {X : Type 0} (xs : List X) (i : ℕ) (v : X) → i < length xs → slice_get (slice_set xs i v) i ≡ Some v
set_here [] i v lt = absurd (omega arith)
set_here (x ∷ xs) zero v lt = refl
set_here (x ∷ xs) (suc i) v lt = set_here xs i v (omega arith)

pub set_elsewhere : {X : Type 0} (xs : List X) (i k : ℕ) (v : X) → k ≢ i → slice_get (slice_set xs i v) k ≡ slice_get xs k
set_elsewhere [] i k v ne = refl
set_elsewhere (x ∷ xs) zero zero v ne = absurd (ne refl)
set_elsewhere (x ∷ xs) zero (suc k) v ne = refl
set_elsewhere (x ∷ xs) (suc i) zero v ne = refl
set_elsewhere (x ∷ xs) (suc i) (suc k) v ne = set_elsewhere xs i k v (λ q. ne (ap suc q))

same_inside : {X : Type 0} (x y : X) → Some x ≡ Some y → x ≡ y
same_inside x y q = ap (λ o. unwrap_or o x) q

-- a line is put into the slot of its place
pub put_in : (lines : List KeyLineView) (slots : List (Option KeyLineView)) (place : ℕ) (line : KeyLineView) → AreSlotsOf lines slots
    → place < length slots → slice_get lines place ≡ Some line → AreSlotsOf lines (slice_set slots place (Some line))
put_in lines slots place line are lt is = record {
  many = length-set slots place (Some line) ∙ are.many;
  filled = λ k other q.
      ⊎_elim
      (λ (same : k ≡ place).
      ap (λ j. slice_get lines j) same ∙ is
      ∙ same_inside (Some line) (Some other) (sym (set_here slots place (Some line) lt) ∙ ap (λ j. slice_get (slice_set slots place (Some line)) j) (sym same) ∙ q))
      (λ (ne : k ≢ place). are.filled k other (sym (set_elsewhere slots place k (Some line) ne) ∙ q))
      (cases_eq k place);
}

-- the slot of its place is then filled, and what was filled stays so
pub filled_here : (slots : List (Option KeyLineView)) (place : ℕ) (line : KeyLineView) → place < length slots → IsFilled (slice_set slots place (Some line)) place
filled_here slots place line lt = (line, set_here slots place (Some line) lt)

pub stays_filled : (slots : List (Option KeyLineView)) (place : ℕ) (line : KeyLineView) → place < length slots → (other : ℕ) → IsFilled slots other
    → IsFilled (slice_set slots place (Some line)) other
stays_filled slots place line lt other h =
    ⊎_elim
    (λ (same : other ≡ place). subst (IsFilled (slice_set slots place (Some line))) (sym same) (filled_here slots place line lt))
    (λ (ne : other ≢ place). (h.0, set_elsewhere slots place other (Some line) ne ∙ h.1))
    (cases_eq other place)

-- one of the lines is taken off to be put into its slot: each of them still waits, or is in its slot
pub put_one : (waiting rest : List Placed) (next : Placed) (slots slots' : List (Option KeyLineView)) (place : ℕ) → waiting ≡ rest ++ next ∷ []
    → IsFilled slots' next.place → ((other : ℕ) → IsFilled slots other → IsFilled slots' other)
    → HasPlace waiting place ⊎ IsFilled slots place → HasPlace rest place ⊎ IsFilled slots' place
put_one waiting rest next slots slots' place popped here others =
    ⊎_elim
    (λ h. ⊎_elim
    (λ (old : Contains rest h.0). inl (h.0, old, h.2))
    (λ (is : next ≡ h.0). inr (subst (IsFilled slots') (ap (λ (p : Placed). p.place) is ∙ h.2) here))
    (Contains-push_cases rest next h.0 (subst (λ l. Contains l h.0) popped h.1)))
    (λ filled. inr (others place filled))

pub all_put : (slots : List (Option KeyLineView)) (place : ℕ) → HasPlace [] place ⊎ IsFilled slots place → IsFilled slots place
all_put slots place = ⊎_elim (λ h. absurd (none h.0 h.1)) (λ filled. filled)
  where
    none : (x : Placed) → Contains [] x → ⊥
    none x h = omega arith

-- slots that are empty
none_at : (n place : ℕ) (line : KeyLineView) → slice_get (replicate n None) place ≡ Some (Some line) → ⊥
none_at zero place line q = cc
none_at (suc n) zero line q = cc
none_at (suc n) (suc place) line q = none_at n place line q

pub empty_slots : (lines : List KeyLineView) (n : ℕ) (slots : List (Option KeyLineView)) → n ≡ length lines → slots ≡ replicate n None → AreSlotsOf lines slots
empty_slots lines n slots many are = subst (AreSlotsOf lines) (sym are) (record {
  many = length-replicate n None ∙ many;
  filled = λ place line q. absurd (none_at n place line q);
})
