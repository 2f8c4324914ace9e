-- ends that are left where the number of an open operation is marked
use Rattle.std.proofs.Common.{◌≡◌, ◌↔◌, ⊎_elim, ℕ, zero, suc, set, ◌+◌, ◌<◌, ◌≤◌, Bool, true, false, IsTrue, Option, Some, None, List, [], ◌∷◌, length, slice_get, get_or, take, refl, sym, ap, ◌∙◌, subst, arith, add-one}
use Rattle.std.specs.FinMap as finmap
use Rattle.std.specs.List.{filter, remove}
use Rattle.std.proofs.lemmas.Bool.{cases_eq, true≢false}
use Rattle.std.proofs.lemmas.List.{get_or-set_other, get_or-set_same, take_all}
use Rattle.std.proofs.lemmas.Option.{slice_get-get_or, slice_get_within, get_or_from_slice_get}
use Rattle.models.specs.declared.finding.Answer.{Answer}
use Rattle.models.specs.declared.finding.Found.{Found}
use Rattle.models.specs.Objects.{Fits}
use Rattle.linspec.specs.Ends.{End}
use Rattle.rows.specs.RowSets.{IsPutIf, PutsMarked, is_marked, mark_of}
use Rattle.interner.specs.Numbers.{IsSlot}
use Rattle.interner.proofs.Lists.{one_of}
use Rattle.moves.specs.declared.pending_op.PendingOp.{PendingOp}
use Rattle.moves.specs.declared.table.Table.{Table}
use Rattle.moves.specs.EndSteps.{Along, Fails, FitsAt, IsOut, Settles, is_other, settled}
use Rattle.moves.specs.Tables.{AreShown, HasEachOnce, IsOpenAt, Shows, ShownWith, rows_of, with_rows}
use Rattle.ends.specs.Oks.{AreMarksOf}
use Rattle.moves.proofs.Adding.{Adds-skip}
use Rattle.ends.proofs.Settling.{out_by_zero, says_without, settled_out, told_open, zero_by_out}
use Rattle.moves.proofs.Showing.{end_at, shown_after, shown_first, shown_no_rows, widens_itself, widens_rows}

-- one more end that leaves nothing
shown_less : {S : Type 0} (calls : List PendingOp) (t : Table S) (R : End S → End S → Type 0) (ends : List (End S)) (i : ℕ) (e : End S) → slice_get ends i ≡ Some e → ((f : End S) → ¬ R e f) → ShownWith t calls [] (Along R (take i ends))
    → ShownWith t calls [] (Along R (take (i + 1) ends))
shown_less calls t R ends i e here none s = record {
  more = s.more;
  shown = s.shown;
  front = s.front;
  adds = Adds-skip R ends [] s.more i e (slice_get_within ends i e here) (sym (get_or_from_slice_get ends i e e here)) s.adds none;
}

-- where a row is marked its end without the operation is left, and of no other
module _ {S : Type 0} (t : Table S) (calls : List PendingOp) (once : HasEachOnce calls) (at id : ℕ) (h : IsOpenAt calls at id) (ends : List (End S)) (shown : AreShown t calls ends) (marks : List Bool) (R : End S → End S → Type 0)
    (leaves : (e : End S) (row : List ℕ) → Shows t calls row e → is_marked (at + 1) marks row ≡ true → (f : End S) → (settled e id ≡ f) ↔ R e f)
    (drops : (e : End S) (row : List ℕ) → Shows t calls row e → is_marked (at + 1) marks row ≡ false → (f : End S) → ¬ R e f) where
  one_more : (n : ℕ) (row : List ℕ) (e : End S) → slice_get ends n ≡ Some e → Shows t calls row e → (mid new : List (List ℕ)) (b : Bool) → is_marked (at + 1) marks row ≡ b → IsPutIf b (remove row (at + 1)) mid new
      → ShownWith (with_rows t mid) (filter (is_other id) calls) [] (Along R (take n ends)) → ShownWith (with_rows t new) (filter (is_other id) calls) [] (Along R (take (n + 1) ends))
  one_more n row e here shows mid new true is put so_far =
      shown_after (filter (is_other id) calls) (with_rows t mid) (with_rows t mid) (with_rows t new) R ends n e (settled e id) (remove row (at + 1)) here
      (λ f. (leaves e row shows is f).0) (λ f. (leaves e row shows is f).1)
      (widens_itself _) refl (says_without t.states t.founds calls once at id h e row (remove row (at + 1)) shows refl) (widens_rows _ _ refl refl) put so_far
  one_more n row e here shows mid new false is put so_far =
      subst (λ rows. ShownWith (with_rows t rows) (filter (is_other id) calls) [] (Along R (take (n + 1) ends))) (sym put)
      (shown_less (filter (is_other id) calls) (with_rows t mid) R ends n e here (drops e row shows is) so_far)

  pub shown_marked : (n : ℕ) (old new : List (List ℕ)) → old ≡ [] → n ≤ length (rows_of t) → PutsMarked (at + 1) marks (rows_of t) n old new → ShownWith (with_rows t new) (filter (is_other id) calls) [] (Along R (take n ends))
  shown_marked zero old new none le puts =
      shown_first (filter (is_other id) calls) (with_rows t new) R (shown_no_rows calls (filter (is_other id) calls) t ends shown new (puts ∙ none))
  shown_marked (suc n) old new none le puts =
      let row = get_or (rows_of t) n [] in
      let p = end_at calls t ends shown n row (slice_get-get_or (rows_of t) n [] (omega (arith, le))) in
      subst (λ k. ShownWith (with_rows t new) (filter (is_other id) calls) [] (Along R (take k ends))) (add-one n)
      (one_more n row p.0 p.1 p.2 puts.0 new (is_marked (at + 1) marks row) refl puts.2 (shown_marked n old puts.0 none (omega (arith, le)) puts.1))

-- the number of an open operation in a row
module _ {S : Type 0} (t : Table S) (calls : List PendingOp) (at id : ℕ) (h : IsOpenAt calls at id) (e : End S) (row : List ℕ) (shows : Shows t calls row e) where
  number_there : slice_get row (at + 1) ≡ Some (get_or row (at + 1) 0)
  number_there =
      let lt = slice_get_within calls at h.call h.there in
      let long = shows.long in
      slice_get-get_or row (at + 1) 0 (omega (arith, lt, long))

  pub mark_there : (marks : List Bool) → is_marked (at + 1) marks row ≡ get_or marks (get_or row (at + 1) 0) false
  mark_there marks = ap (mark_of marks) number_there

  slot_there : IsSlot t.founds (get_or row (at + 1) 0) (finmap.get e.pending id)
  slot_there = subst (IsSlot t.founds (get_or row (at + 1) 0)) (told_open calls at id e h) (shows.slots at h.call h.there)

  -- by the marks of the numbers that fit an answer
  module _ (answer : Answer) (marks : List Bool) (are : AreMarksOf answer t.founds marks) where
    fits_by : (found : Option Found) → finmap.get e.pending id ≡ found → IsSlot t.founds (get_or row (at + 1) 0) found → IsTrue (get_or marks (get_or row (at + 1) 0) false) → FitsAt e id answer
    fits_by None is slot mark = absurd (true≢false (sym mark ∙ ap (λ n. get_or marks n false) slot ∙ are.none))
    fits_by (Some found) is slot mark = (found, is, (are.each slot.0 found slot.2).0 (sym (ap (λ n. get_or marks n false) slot.1) ∙ mark))

    pub fits_marked : is_marked (at + 1) marks row ≡ true → FitsAt e id answer
    fits_marked mark = fits_by (finmap.get e.pending id) refl slot_there (sym (mark_there marks) ∙ mark)

    pub marked_fits : FitsAt e id answer → is_marked (at + 1) marks row ≡ true
    marked_fits fits =
        let slot = subst (IsSlot t.founds (get_or row (at + 1) 0)) fits.1 slot_there in
        mark_there marks ∙ ap (λ n. get_or marks n false) slot.1 ∙ (are.each slot.0 fits.0 slot.2).1 fits.2

  -- by the mark of zero alone
  pub out_marked : is_marked (at + 1) (true ∷ []) row ≡ true → IsOut e id
  out_marked mark =
      out_by_zero t.founds calls at id h t.states e row shows
      (number_there ∙ ap Some (only_zero (get_or row (at + 1) 0) (sym (mark_there (true ∷ [])) ∙ mark)))
    where
      only_zero : (n : ℕ) → get_or (true ∷ []) n false ≡ true → n ≡ 0
      only_zero zero mark = refl
      only_zero (suc n) mark = absurd (true≢false (sym mark))

  pub marked_out : IsOut e id → is_marked (at + 1) (true ∷ []) row ≡ true
  marked_out out = ap (mark_of (true ∷ [])) (zero_by_out t.founds calls at id h t.states e row shows out)

all_of : {S : Type 0} (t : Table S) (calls : List PendingOp) (ends : List (End S)) → AreShown t calls ends → take (length (rows_of t)) ends ≡ ends
all_of t calls ends shown = take_all (length (rows_of t)) ends (let long = shown.long in omega (arith, long))

-- the ends left after an ok and after a fail
pub left_settled : {S : Type 0} (t : Table S) (calls : List PendingOp) → HasEachOnce calls → (at id : ℕ) → IsOpenAt calls at id → (ends : List (End S)) → AreShown t calls ends → (answer : Answer) (marks : List Bool) → AreMarksOf answer t.founds marks
    → (old new : List (List ℕ)) → old ≡ [] → PutsMarked (at + 1) marks (rows_of t) (length (rows_of t)) old new → ShownWith (with_rows t new) (filter (is_other id) calls) [] (Along (Settles id answer) ends)
left_settled t calls once at id h ends shown answer marks are old new none puts =
    subst (λ l. ShownWith (with_rows t new) (filter (is_other id) calls) [] (Along (Settles id answer) l)) (all_of t calls ends shown)
    (shown_marked t calls once at id h ends shown marks (Settles id answer)
    (λ e row shows is f. ((λ q. (fits_marked t calls at id h e row shows answer marks are is, q)), (λ r. r.1)))
    (λ e row shows is f r. true≢false (sym (marked_fits t calls at id h e row shows answer marks are r.0) ∙ is))
    (length (rows_of t)) old new none (omega arith) puts)

pub left_failed : {S : Type 0} (t : Table S) (calls : List PendingOp) → HasEachOnce calls → (at id : ℕ) → IsOpenAt calls at id → (ends : List (End S)) → AreShown t calls ends
    → (old new : List (List ℕ)) → old ≡ [] → PutsMarked (at + 1) (true ∷ []) (rows_of t) (length (rows_of t)) old new → ShownWith (with_rows t new) (filter (is_other id) calls) [] (Along (Fails id) ends)
left_failed t calls once at id h ends shown old new none puts =
    subst (λ l. ShownWith (with_rows t new) (filter (is_other id) calls) [] (Along (Fails id) l)) (all_of t calls ends shown)
    (shown_marked t calls once at id h ends shown (true ∷ []) (Fails id)
    (λ e row shows is f. let out = out_marked t calls at id h e row shows is in ((λ q. (out, sym (settled_out e id out) ∙ q)), (λ r. settled_out e id out ∙ r.1)))
    (λ e row shows is f r. true≢false (sym (marked_out t calls at id h e row shows r.0) ∙ is))
    (length (rows_of t)) old new none (omega arith) puts)

-- one mark more
module _ (answer : Answer) (founds : List Found) (marks : List Bool) (n : ℕ) (mark : Bool) (found : Found) (here : slice_get founds n ≡ Some found) (is : (mark ≡ true) ↔ Fits found answer) (long : length founds < length marks)
    (so_far : (at : ℕ) (f : Found) → at < n → slice_get founds at ≡ Some f → (get_or marks (at + 1) false ≡ true) ↔ Fits f answer) where
  this_mark : get_or (set marks (n + 1) mark) (n + 1) false ≡ mark
  this_mark = let lt = slice_get_within founds n found here in get_or-set_same marks (n + 1) mark false (omega (arith, lt, long))

  pub marks_more : (at : ℕ) (f : Found) → at < n + 1 → slice_get founds at ≡ Some f → (get_or (set marks (n + 1) mark) (at + 1) false ≡ true) ↔ Fits f answer
  marks_more at f lt there =
      ⊎_elim
      (λ same.
      let of : found ≡ f = one_of found f (sym here ∙ ap (slice_get founds) (sym same) ∙ there) in
      subst (λ k. (get_or (set marks (n + 1) mark) (k + 1) false ≡ true) ↔ Fits f answer) (sym same)
      (subst (λ b. (b ≡ true) ↔ Fits f answer) (sym this_mark) (subst (λ g. (mark ≡ true) ↔ Fits g answer) of is)))
      (λ ne.
      subst (λ b. (b ≡ true) ↔ Fits f answer) (sym (get_or-set_other marks (n + 1) (at + 1) mark false (λ q. ne (omega (arith, q)))))
      (so_far at f (omega (arith, lt, ne)) there))
      (cases_eq at n)
