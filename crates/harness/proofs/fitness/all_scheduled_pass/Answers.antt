use Rattle.std.proofs.Common.{ℕ, ◌+◌, drop, refl, sym, subst, true≢false}
use Rattle.std.proofs.lemmas.List.{drop_all}
use Rattle.events.specs.declared.event.Fault.{Fault}
use Rattle.generators.specs.Generators.{Each}
use Rattle.harness.specs.Fitness.{FaultPasses}
use Rattle.harness.proofs.Walking.{comes_on, comes_not, drop_at, each_at}
use Rattle.harness.proofs.fitness.all_scheduled_pass.Goals as goal

pub returns-then-not-fault_passes : goal.returns-then-not-fault_passes
returns-then-not-fault_passes c =
    let P = λ (x : ℕ × Fault). FaultPasses c.args.test x.1 in
    let xs = c.faults-x-items.result.now in
    let i = c.loop-x.x-index in
    let x = c.x-item.result in (
      λ h. cc,
      λ all. absurd (comes_not (Each P (drop i xs)) (Each P xs) (Each P (drop (i + 1) xs)) (P x) c.loop-x.invariant
          (each_at P xs (drop i xs) (drop (i + 1) xs) x (drop_at xs i x c.loop-x-test.true c.x-item.is)) (λ p. true≢false (sym (c.if-not-fault_passes.ensures.1 p))) (subst (Each P) (sym c.faults-x-items.ensures) all)),
    )

pub loop-x-preserved : goal.loop-x-preserved
loop-x-preserved c =
    let P = λ (x : ℕ × Fault). FaultPasses c.args.test x.1 in
    let xs = c.faults-x-items.result.now in
    let i = c.loop-x.x-index in
    let x = c.x-item.result in
    comes_on (Each P (drop i xs)) (Each P xs) (Each P (drop (i + 1) xs)) (P x) c.loop-x.invariant
    (each_at P xs (drop i xs) (drop (i + 1) xs) x (drop_at xs i x c.loop-x-test.true c.x-item.is)) (c.if-not-fault_passes.ensures.0 refl)

pub returns : goal.returns
returns c =
    let P = λ (x : ℕ × Fault). FaultPasses c.args.test x.1 in (
      λ h. subst (Each P) c.faults-x-items.ensures (c.loop-x.invariant.0 (subst (Each P) (sym (drop_all c.loop-x.x-index c.faults-x-items.result.now c.loop-x-test.false)) tt)),
      λ all. refl,
    )
