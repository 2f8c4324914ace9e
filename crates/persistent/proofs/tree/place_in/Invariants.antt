use Rattle.std.proofs.Common.{◌≡◌, ◌+◌, ◌-◌, ◌<◌, ◌≤◌, ◌<ℤ◌, ◌≤ℤ◌, ℕ, get_or, length}
use Rattle.persistent.proofs.tree.place_in.Given as goal

abbrev pub invariant-halves : goal.invariant-halves
invariant-halves g l = record {
  order : l.from ≤ l.to;
  within : l.to ≤ length l.values;
  before : (k : ℕ) (d : g.row.T.Denot) → l.from ≡ k + 1 → g.T.Placed.place (get_or l.values k d) <ℤ l.value;
  there : (d : g.row.T.Denot) → l.to < length l.values → l.value ≤ℤ g.T.Placed.place (get_or l.values l.to d);
}

abbrev pub decreases-halves : goal.decreases-halves
decreases-halves g l = l.to - l.from
