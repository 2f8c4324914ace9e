use Rattle.std.proofs.Common.{◌≡◌, ℕ, ◌≤◌, ◌⊎◌, take}
use Rattle.std.specs.List.{Contains}
use Rattle.witness.specs.KeyOrders.{AreInTime, ids_of}
use Rattle.witness.proofs.keys.first_late.Given as goal

abbrev pub invariant-loop-at : goal.invariant-loop-at
invariant-loop-at l = record {
  in_time : AreInTime l.statuses (ids_of (take l.at l.positions));
  most : (id : ℕ) → Contains (ids_of (take l.at l.positions)) id → id ≤ l.latest;
  one : (l.latest ≡ 0) ⊎ Contains (ids_of (take l.at l.positions)) l.latest;
}
