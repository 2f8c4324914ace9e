-- So far each number whose answer fits is marked, and no other.
use Rattle.std.proofs.Common.{◌≡◌, ◌↔◌, ◌+◌, ◌<◌, ℕ, true, false, Some, length, slice_get, get_or}
use Rattle.models.specs.declared.finding.Found.{Found}
use Rattle.models.specs.Objects.{Fits}
use Rattle.ends.proofs.after.mark_fitting.Given as goal

abbrev pub invariant-loop-at : goal.invariant-loop-at
invariant-loop-at l = record {
  long : length l.founds < length l.marks.items;
  none : get_or l.marks.items 0 false ≡ false;
  each : (at : ℕ) (found : Found) → at < l.at → slice_get l.founds at ≡ Some found
      → (get_or l.marks.items (at + 1) false ≡ true) ↔ Fits found l.answer;
}
