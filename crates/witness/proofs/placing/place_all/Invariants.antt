use Rattle.witness.proofs.Placings.{ArePlacedUpTo}
use Rattle.witness.proofs.placing.place_all.Given as goal

abbrev pub invariant-loop-place : goal.invariant-loop-place
invariant-loop-place l = ArePlacedUpTo l.events l.statuses l.order l.place l.taken.items l.positions.items
