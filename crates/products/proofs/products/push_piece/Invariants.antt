use Rattle.products.proofs.Putting.{IsPushed}
use Rattle.products.proofs.products.push_piece.Given as goal

abbrev pub invariant-loop-at : goal.invariant-loop-at
invariant-loop-at l = IsPushed l.place l.start l.left l.fn.stack.items l.others l.at l.stack.items
