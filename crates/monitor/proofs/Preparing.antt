-- a change that is prepared, or dropped, at the line at a place
use Rattle.std.proofs.Common.{◌≡◌, ℕ, zero, suc, ◌≤◌, Option, Some, IfSome, Result, Ok, Err, IfOk, OnOk, OnErr, List, [], ◌∷◌, slice_get, sym, ap, subst, ◌∙◌}
use Rattle.std.specs.Map.{values_of}
use Rattle.std.proofs.lemmas.Option.{none-some, same_Some}
use Rattle.std.proofs.lemmas.Result.{IfOk-weaker, on_ok_weaker}
use Rattle.indexmap.specs.Layout.{set_value_at}
use Rattle.events.specs.declared.event.Event.{Event}
use Rattle.linspec.specs.declared.verdict.KeyStatus.{KeyStatus}
use Rattle.linspec.specs.KeyHistory.{KeyHistory, IsStatusOf}
use Rattle.checkpoints.specs.KeyLineView.{KeyLineView, at_rest, with_next}
use Rattle.checkpoints.specs.Borrowed.{AreBorrowedBy}
use Rattle.monitor.specs.Rows.{LinesView, nows, change_at, without_next, AreRowsBorrowedBy, PreparesAt}
use Rattle.monitor.proofs.Changing.{written}
use Rattle.monitor.proofs.Places.{same_written, map_written}
use Rattle.monitor.proofs.Joins.{now_read}

-- a fact about the row that is read
pub at_row : (rows : List (ℕ × KeyLineView)) (place key : ℕ) (line : KeyLineView) (P : ℕ × KeyLineView → Type 0) → slice_get rows place ≡ Some (key, line) → P (key, line) → IfSome (slice_get rows place) P
at_row rows place key line P at p = subst (λ (o : Option (ℕ × KeyLineView)). IfSome o P) (sym at) p

-- a line that is read has a key
has_key : (rows : List (ℕ × KeyLineView)) (place : ℕ) (line : KeyLineView) → Some line ≡ slice_get (values_of rows) place → (key : ℕ) × (slice_get rows place ≡ Some (key, line))
has_key [] place line at = absurd (none-some line (sym at))
has_key (x ∷ rows) zero line at = (x.0, ap (λ (l : KeyLineView). Some (x.0, l)) (sym (same_Some _ _ at)))
has_key (x ∷ rows) (suc place) line at = has_key rows place line at

-- preparing leaves what a line has now
now_kept : {T E : Type 0} (r : Result T E) (line after : KeyLineView) (next : KeyHistory) (due : ℕ) → OnOk r (after ≡ with_next next due line) → OnErr r (after ≡ at_rest line.now line.replayed) → after.now ≡ line.now
now_kept (Ok x) line after next due ok err = ap (λ (l : KeyLineView). l.now) ok
now_kept (Err y) line after next due ok err = ap (λ (l : KeyLineView). l.now) err

-- the map's entries are the rows, and a line of it is read
module _ {es : List (ℕ × KeyLineView)} (old : LinesView) (seen : es ≡ old.rows) (place : ℕ) {line : KeyLineView} (read : Some line ≡ slice_get (values_of es) place) where
  row_at : (key : ℕ) × (slice_get old.rows place ≡ Some (key, line))
  row_at = subst (λ (l : List (ℕ × KeyLineView)). (key : ℕ) × (slice_get l place ≡ Some (key, line))) seen (has_key es place line read)

  changed : (f : KeyLineView → KeyLineView) → set_value_at es place (f line) ≡ change_at place f old.rows
  changed f = ap (λ l. set_value_at l place (f line)) seen ∙ written f old.rows place row_at.0 line row_at.1

  -- it borrows its events if all are there
  pub line_borrowed : (borrowed : List Event) → AreRowsBorrowedBy borrowed (nows old.rows) → AreBorrowedBy borrowed line.now.events
  line_borrowed borrowed are = subst (λ (o : Option (ℕ × KeyHistory)). IfSome o (λ row. AreBorrowedBy borrowed row.1.events)) (now_read old.rows place row_at.0 line row_at.1) (are place)

  pub prepared_at : {E : Type 0} {r : Result KeyStatus E} {change : KeyHistory → KeyHistory} {due : KeyHistory → ℕ} {new : LinesView} (after : KeyLineView)
      → new.rows ≡ set_value_at es place after → old.room ≤ new.room → IfOk r (IsStatusOf (change line.now)) → OnOk r (after ≡ with_next (change line.now) (due line.now) line)
      → OnErr r (after ≡ at_rest line.now line.replayed) → PreparesAt place change due old new r
  prepared_at {r = r} {change = change} {due = due} {new = new} after is room status ok err = record {
    status = IfOk-weaker r (IsStatusOf (change line.now)) (λ status. IfSome (slice_get old.rows place) (λ row. IsStatusOf (change row.1.now) status))
        (λ status s. at_row old.rows place row_at.0 line (λ row. IsStatusOf (change row.1.now) status) row_at.1 s) status;
    next = on_ok_weaker r (λ (e : after ≡ with_next (change line.now) (due line.now) line). is ∙ ap (set_value_at es place) e ∙ changed (λ l. with_next (change l.now) (due l.now) l)) ok;
    kept = ap nows is ∙ (λ i. nows (set_value_at (seen i) place after)) ∙ map_written (λ (l : KeyLineView). l.now) old.rows place after
        ∙ ap (λ (h : KeyHistory). set_value_at (nows old.rows) place h) (now_kept r line after (change line.now) (due line.now) ok err)
        ∙ same_written (nows old.rows) place row_at.0 line.now (now_read old.rows place row_at.0 line row_at.1);
    room = room;
  }

  -- the prepared change is dropped
  pub dropped : (after : KeyLineView) → after ≡ without_next line → set_value_at es place after ≡ change_at place without_next old.rows
  dropped after is = ap (set_value_at es place) is ∙ changed without_next
