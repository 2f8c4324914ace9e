-- So far the products have the rows of the table before this place.
use Rattle.std.proofs.Common.{◌≡◌}
use Rattle.moves.specs.Tables.{rows_of}
use Rattle.products.proofs.Leaving.{AreSoFar}
use Rattle.product_ends.proofs.Converting.{StandsAt}
use Rattle.product_ends.proofs.conversion.as_products.Given as goal

abbrev pub invariant-loop-at : goal.invariant-loop-at
invariant-loop-at g l = record {
  places : l.products.0 ≡ l.places;
  rows : AreSoFar l.products.1 (StandsAt (rows_of l.table)) l.at;
}
