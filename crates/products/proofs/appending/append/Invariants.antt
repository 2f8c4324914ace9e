use Rattle.std.proofs.Common.{◌≡◌, ◌≤◌, ◌+◌, ◌++◌, length, take, vec_len, vec_capacity}
use Rattle.products.proofs.appending.append.Given as goal

abbrev pub invariant-loop-set : goal.invariant-loop-set
invariant-loop-set l = record {
  items : l.list.items ≡ l.fn.list.items ++ take l.set-index l.sets;
  room : vec_len l.list + length l.sets ≤ vec_capacity l.list + l.set-index;
}
