use Rattle.std.proofs.Common.{drop}
use Rattle.generators.specs.Generators.{generators_of, AllItemsOf}
use Rattle.harness.specs.Fitness.{Passes}
use Rattle.harness.proofs.Walking.{Comes}
use Rattle.harness.proofs.fitness.+pass.Given as goal

abbrev pub invariant-all_children_pass-loop-child : goal.invariant-all_children_pass-loop-child
invariant-all_children_pass-loop-child l =
    Comes (AllItemsOf (Passes l.test) (generators_of (drop l.child-index l.children)))
    (AllItemsOf (Passes l.test) (generators_of l.children))
