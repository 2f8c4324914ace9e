-- lines that are changed: the one at a place, and one after the other
use Rattle.std.proofs.Common.{◌≡◌, ℕ, zero, suc, ◌+◌, ◌≤◌, Some, List, [], ◌∷◌, ◌++◌, length, take, drop, slice_get, refl, sym, ap, ◌∙◌, add-one}
use Rattle.std.proofs.lemmas.List.{take_all, drop_all, append-nil}
use Rattle.std.proofs.lemmas.Option.{none-some, same_Some}
use Rattle.indexmap.specs.Layout.{set_value_at}
use Rattle.linspec.specs.KeyHistory.{KeyHistory}
use Rattle.checkpoints.specs.KeyLineView.{KeyLineView}
use Rattle.monitor.specs.Rows.{nows, change_at, each_line, without_next}
use Rattle.monitor.proofs.Places.{read_written, same_written}

module _ (change : KeyLineView → KeyLineView) where
  -- the line at a place, after a line is written there
  pub written : (rows : List (ℕ × KeyLineView)) (place key : ℕ) (line : KeyLineView) → slice_get rows place ≡ Some (key, line) → set_value_at rows place (change line) ≡ change_at place change rows
  written [] place key line at = absurd (none-some (key, line) at)
  written (x ∷ rows) zero key line at = ap (λ (y : ℕ × KeyLineView). (x.0, change y.1) ∷ rows) (sym (same_Some x (key, line) at))
  written (x ∷ rows) (suc place) key line at = ap (λ (l : List (ℕ × KeyLineView)). x ∷ l) (written rows place key line at)

  pub changed_is : (rows : List (ℕ × KeyLineView)) (place key : ℕ) (line : KeyLineView) → slice_get rows place ≡ Some (key, line) → slice_get (change_at place change rows) place ≡ Some (key, change line)
  changed_is rows place key line at = ap (λ l. slice_get l place) (sym (written rows place key line at)) ∙ read_written rows place key line (change line) at

  -- the first n are changed, and the others are as they were
  abbrev pub first_changed : ℕ → List (ℕ × KeyLineView) → List (ℕ × KeyLineView)
  first_changed place rows = each_line change (take place rows) ++ drop place rows

  pub next_unchanged : (place : ℕ) (rows : List (ℕ × KeyLineView)) → slice_get (first_changed place rows) place ≡ slice_get rows place
  next_unchanged zero rows = refl
  next_unchanged (suc place) [] = refl
  next_unchanged (suc place) (x ∷ rows) = next_unchanged place rows

  one_more : (place : ℕ) (rows : List (ℕ × KeyLineView)) → change_at place change (first_changed place rows) ≡ first_changed (suc place) rows
  one_more zero [] = refl
  one_more (suc place) [] = refl
  one_more zero (x ∷ rows) = refl
  one_more (suc place) (x ∷ rows) = ap (λ (l : List (ℕ × KeyLineView)). (x.0, change x.1) ∷ l) (one_more place rows)

  -- a part that no change of a line changes stays in all of them
  pub first_have : ((line : KeyLineView) → (change line).now ≡ line.now) → (place : ℕ) (rows : List (ℕ × KeyLineView)) → nows (first_changed place rows) ≡ nows rows
  first_have same zero rows = refl
  first_have same (suc place) [] = refl
  first_have same (suc place) (x ∷ rows) = λ i. (x.0, same x.1 i) ∷ first_have same place rows i

  module _ (old : List (ℕ × KeyLineView)) (place : ℕ) {rows : List (ℕ × KeyLineView)} (so_far : rows ≡ first_changed place old) where
    pub was_at : {row : ℕ × KeyLineView} → slice_get rows place ≡ Some row → slice_get old place ≡ Some row
    was_at at = sym (next_unchanged place old) ∙ ap (λ l. slice_get l place) (sym so_far) ∙ at

    pub changed-more : change_at place change rows ≡ first_changed (place + 1) old
    changed-more = ap (change_at place change) so_far ∙ one_more place old ∙ ap (λ i. first_changed i old) (sym (add-one place))

    pub changed-all : length old ≤ place → rows ≡ each_line change old
    changed-all all =
        so_far
        ∙ (λ i. each_line change (take_all place old all i) ++ drop_all place old all i)
        ∙ append-nil (each_line change old)

-- changes that are alike there, and one that leaves the line as it is
module _ (rows : List (ℕ × KeyLineView)) (place : ℕ) {key : ℕ} {line : KeyLineView} (at : slice_get rows place ≡ Some (key, line)) where
  pub changed_alike : (f g : KeyLineView → KeyLineView) → f line ≡ g line → change_at place f rows ≡ change_at place g rows
  changed_alike f g same = sym (written f rows place key line at) ∙ ap (set_value_at rows place) same ∙ written g rows place key line at

  pub line_after : (f : KeyLineView → KeyLineView) {after : List (ℕ × KeyLineView)} {other : ℕ × KeyLineView} → after ≡ change_at place f rows → slice_get after place ≡ Some other → other.1 ≡ f line
  line_after f {other = other} is there = ap (λ (r : ℕ × KeyLineView). r.1) (same_Some other (key, f line) (sym there ∙ ap (λ l. slice_get l place) is ∙ changed_is f rows place key line at))

  pub unchanged : (f : KeyLineView → KeyLineView) → f line ≡ line → change_at place f rows ≡ rows
  unchanged f same = sym (written f rows place key line at) ∙ ap (set_value_at rows place) same ∙ same_written rows place key line at

-- lines without a prepared change have none, and keep their histories
pub none_left : (rows : List (ℕ × KeyLineView)) → each_line without_next rows ≡ each_line without_next (each_line without_next rows)
none_left [] = refl
none_left (x ∷ rows) = ap (λ (l : List (ℕ × KeyLineView)). (x.0, without_next x.1) ∷ l) (none_left rows)

pub nows_left : (rows : List (ℕ × KeyLineView)) → nows (each_line without_next rows) ≡ nows rows
nows_left [] = refl
nows_left (x ∷ rows) = ap (λ (l : List (ℕ × KeyHistory)). (x.0, x.1.now) ∷ l) (nows_left rows)
