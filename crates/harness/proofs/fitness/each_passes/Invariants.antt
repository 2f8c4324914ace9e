use Rattle.std.proofs.Common.{drop}
use Rattle.generators.specs.Generators.{Each}
use Rattle.harness.specs.Fitness.{Passes}
use Rattle.harness.proofs.Walking.{Comes}
use Rattle.harness.proofs.fitness.each_passes.Given as goal

abbrev pub invariant-loop-item : goal.invariant-loop-item
invariant-loop-item l = Comes (Each (Passes l.test) (drop l.item-index l.items)) (Each (Passes l.test) l.items)
