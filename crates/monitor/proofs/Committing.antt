-- a cut that is carried out, one line after the other
use Rattle.std.proofs.Common.{◌≡◌, ℕ, zero, suc, ◌+◌, ◌<◌, Bool, true, Option, Some, IfSome, IsSome, IsSomeAnd, List, [], ◌∷◌, length, take, slice_get, refl, sym, ap, subst, ◌∙◌}
use Rattle.std.specs.List.{filter}
use Rattle.std.proofs.lemmas.List.{take-map}
use Rattle.std.proofs.lemmas.List.Elements.{filter_passes}
use Rattle.std.proofs.lemmas.Option.{none-some, slice_get_within, get_or_from_slice_get}
use Rattle.indexmap.specs.Layout.{set_value_at}
use Rattle.linspec.specs.KeyHistory.{KeyHistory, cut_at, begins_below}
use Rattle.checkpoints.specs.KeyLineView.{KeyLineView, at_rest, count_on}
use Rattle.monitor.specs.Rows.{nows, cut_rows, each_line, cut_done, IsCutAt, AreCutAt}
use Rattle.monitor.proofs.Changing.{first_changed, next_unchanged, changed-more, written}
use Rattle.monitor.proofs.Places.{row_within}
use Rattle.monitor.proofs.Joins.{now_read}

-- an element among the first ones is in the list
among_first : {X : Type 0} (k : ℕ) (xs : List X) (place : ℕ) (x : X) → slice_get (take k xs) place ≡ Some x → slice_get xs place ≡ Some x
among_first zero xs place x at = absurd (none-some x at)
among_first (suc k) [] place x at = at
among_first (suc k) (y ∷ xs) zero x at = at
among_first (suc k) (y ∷ xs) (suc place) x at = among_first k xs place x at

-- an element that a filter keeps passes it
kept_passes : {X : Type 0} (p : X → Bool) (xs ys : List X) (place : ℕ) (x : X) → filter p xs ≡ ys → slice_get ys place ≡ Some x → p x ≡ true
kept_passes p xs ys place x e at =
    let read : slice_get (filter p xs) place ≡ Some x = ap (λ l. slice_get l place) e ∙ at in
    subst (λ y. p y ≡ true) (get_or_from_slice_get (filter p xs) place x x read) (filter_passes p xs place x (slice_get_within (filter p xs) place x read))

-- the histories of lines whose cut is carried out
done_rows : (n : ℕ) (rows : List (ℕ × KeyLineView)) → nows (each_line (cut_done n) rows) ≡ cut_rows n (nows rows)
done_rows n [] = refl
done_rows n (x ∷ rows) = ap (λ (l : List (ℕ × KeyHistory)). (x.0, cut_at n x.1.now) ∷ l) (done_rows n rows)

abbrev kept_nows : ℕ → List (ℕ × KeyLineView) → List (ℕ × KeyHistory)
kept_nows kept old = take kept (nows old)

first_nows : (kept : ℕ) (old : List (ℕ × KeyLineView)) → nows (take kept old) ≡ kept_nows kept old
first_nows kept old = sym (take-map (λ (r : ℕ × KeyLineView). (r.0, r.1.now)) kept old)

pub done_now : (n kept : ℕ) (old : List (ℕ × KeyLineView)) {rows : List (ℕ × KeyLineView)} → rows ≡ each_line (cut_done n) (take kept old) → nows rows ≡ cut_rows n (kept_nows kept old)
done_now n kept old is = ap nows is ∙ done_rows n (take kept old) ∙ ap (cut_rows n) (first_nows kept old)

-- of the lines that are left each has an event before n, so its cut is prepared
module _ (n kept : ℕ) (old : List (ℕ × KeyLineView)) (prepared : AreCutAt n old) (first : filter (λ row. begins_below n row.1) (nows old) ≡ kept_nows kept old)
    {rows : List (ℕ × KeyLineView)} {place : ℕ} (so_far : rows ≡ first_changed (cut_done n) place (take kept old)) (lt : place < length (take kept old)) where
  abbrev row_at : (row : ℕ × KeyLineView) × (slice_get (take kept old) place ≡ Some row)
  row_at = row_within (take kept old) place lt

  at : slice_get rows place ≡ Some row_at.0
  at = ap (λ l. slice_get l place) so_far ∙ next_unchanged (cut_done n) place (take kept old) ∙ row_at.1

  next : row_at.0.1.next ≡ Some (cut_at n row_at.0.1.now)
  next =
      let begins : begins_below n row_at.0.1.now ≡ true =
      kept_passes (λ (r : ℕ × KeyHistory). begins_below n r.1) (nows old) (nows (take kept old)) place (row_at.0.0, row_at.0.1.now) (first ∙ sym (first_nows kept old)) (now_read (take kept old) place row_at.0.0 row_at.0.1 row_at.1) in
      let cut : IsCutAt n row_at.0.1 = subst (λ (o : Option (ℕ × KeyLineView)). IfSome o (λ r. IsCutAt n r.1)) (among_first kept old place row_at.0 row_at.1) (prepared place) in
      (cut begins).0

  pub may_commit : IsSomeAnd (slice_get rows place) (λ row. IsSome row.1.next)
  may_commit = subst (λ (o : Option (ℕ × KeyLineView)). IsSomeAnd o (λ r. IsSome r.1.next)) (sym at) (subst IsSome (sym next) refl)

  pub committed : {after : List (ℕ × KeyLineView)} → IfSome (slice_get rows place) (λ row. IfSome row.1.next (λ h. after ≡ set_value_at rows place (at_rest h (count_on row.1.replayed row.1.prepared_replays))))
      → after ≡ first_changed (cut_done n) (place + 1) (take kept old)
  committed {after = after} is =
      subst (λ (o : Option KeyHistory). IfSome o (λ h. after ≡ set_value_at rows place (at_rest h (count_on row_at.0.1.replayed row_at.0.1.prepared_replays)))) next
      (subst (λ (o : Option (ℕ × KeyLineView)). IfSome o (λ row. IfSome row.1.next (λ h. after ≡ set_value_at rows place (at_rest h (count_on row.1.replayed row.1.prepared_replays))))) at is)
      ∙ written (cut_done n) rows place row_at.0.0 row_at.0.1 at
      ∙ changed-more (cut_done n) (take kept old) place so_far
