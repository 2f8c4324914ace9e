-- So far what is left of the products before this place is put.
use Rattle.std.proofs.Common.{◌≡◌, ◌-◌, true, false, get_or}
use Rattle.products.proofs.Leaving.{AreSoFar, IsLeftAt}
use Rattle.products.proofs.taking.put_marked.Given as goal

abbrev pub invariant-loop-at : goal.invariant-loop-at
invariant-loop-at l = record {
  places : l.products.0 ≡ l.other.0 - 1;
  rows : AreSoFar l.products.1 (IsLeftAt (λ n. get_or l.marks n false ≡ true) l.other.1 l.place) l.at;
}
