-- So far there are sets of the numbers before this place.
use Rattle.product_ends.proofs.Alone.{AreAlone}
use Rattle.product_ends.proofs.conversion.set_alone.Given as goal

abbrev pub invariant-loop-place : goal.invariant-loop-place
invariant-loop-place l = AreAlone l.sets.items l.row l.place
