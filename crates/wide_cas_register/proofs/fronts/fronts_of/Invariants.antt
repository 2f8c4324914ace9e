use Rattle.std.proofs.Common.{◌≤◌, ◌+◌, ◌-◌, drop, length}
use Rattle.wide_cas_register.specs.Fronts.{AreSomeBy}
use Rattle.wide_cas_register.proofs.fronts.fronts_of.Given as goal

abbrev pub invariant-layers : goal.invariant-layers
invariant-layers l = record {
  tried : l.from ≤ l.budget;
  within : l.from ≤ length l.fronts.items;
  some : AreSomeBy l.calls l.moment l.rows l.fronts.items (drop l.from l.fronts.items);
}

abbrev pub decreases-layers : goal.decreases-layers
decreases-layers l = l.budget + 1 - length l.fronts.items
