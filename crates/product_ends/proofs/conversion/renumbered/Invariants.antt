-- So far the rows of the products before this place have rows that say the same.
use Rattle.std.proofs.Common.{◌≡◌}
use Rattle.product_ends.proofs.Renumbering.{AreSaidAgain}
use Rattle.product_ends.proofs.conversion.renumbered.Given as goal

abbrev pub invariant-loop-at : goal.invariant-loop-at
invariant-loop-at g l = record {
  places : l.products.0 ≡ l.kept.0;
  said : AreSaidAgain l.table l.other l.kept.1 l.products.1 l.at;
}
