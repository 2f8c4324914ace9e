use Rattle.std.proofs.Common.{◌≡◌, ◌+◌, ◌-◌, ◌*◌, drop}
use Rattle.products.proofs.Putting.{Brings, IsAlike, IsLeftFrom, sets_at}
use Rattle.products.proofs.products.Products.+putting.Given as goal

abbrev pub decreases-put_rest : goal.decreases-put_rest
decreases-put_rest l = 2 * l.end + 1

abbrev pub decreases-put_pieces : goal.decreases-put_pieces
decreases-put_pieces l = 2 * l.at + 2

-- The pieces for places behind those to come are put.
abbrev pub invariant-put_pieces-loop-behind : goal.invariant-put_pieces-loop-behind
invariant-put_pieces-loop-behind l =
    let many = l.fn.self.0 in
    let sets = drop l.start l.fn.stack.items in
    let others = sets_at l.fn.self.1 l.at in
    record {
      places : l.self.0 ≡ many;
      stack : l.stack.items ≡ l.fn.stack.items;
      brings : Brings (IsLeftFrom (many - l.behind) l.first sets others) sets l.growable_from l.fn.self.1 l.self.1;
      alike : IsAlike (many - l.behind) l.at others l.self.1;
    }
