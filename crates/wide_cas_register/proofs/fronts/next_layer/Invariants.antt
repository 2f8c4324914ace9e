use Rattle.std.proofs.Common.{drop, take}
use Rattle.wide_cas_register.specs.Fronts.{IsLayerBy}
use Rattle.wide_cas_register.proofs.fronts.next_layer.Given as goal

abbrev pub invariant-loop-front : goal.invariant-loop-front
invariant-loop-front l = IsLayerBy l.calls l.moment l.there (take l.front-index (drop l.from l.there)) l.layer.items
