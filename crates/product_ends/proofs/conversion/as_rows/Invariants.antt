-- So far there are the rows of the products before this place.
use Rattle.interner.specs.Numbers.{IsOnceIn}
use Rattle.product_ends.proofs.Unfolding.{AreUnfolded}
use Rattle.product_ends.proofs.conversion.as_rows.Given as goal

abbrev pub invariant-loop-at : goal.invariant-loop-at
invariant-loop-at l = AreUnfolded l.products.1 l.at l.rows × IsOnceIn l.rows
