use Rattle.std.proofs.Common.{ℕ, drop}
use Rattle.events.specs.declared.event.Fault.{Fault}
use Rattle.generators.specs.Generators.{Each}
use Rattle.harness.specs.Fitness.{FaultPasses}
use Rattle.harness.proofs.Walking.{Comes}
use Rattle.harness.proofs.fitness.all_scheduled_pass.Given as goal

abbrev pub invariant-loop-x : goal.invariant-loop-x
invariant-loop-x l =
    Comes (Each (λ (x : ℕ × Fault). FaultPasses l.test x.1) (drop l.x-index l.x-items))
    (Each (λ (x : ℕ × Fault). FaultPasses l.test x.1) l.x-items)
