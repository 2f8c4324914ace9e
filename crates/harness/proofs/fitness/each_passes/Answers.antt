use Rattle.std.proofs.Common.{◌+◌, drop, refl, sym, subst, true≢false}
use Rattle.std.proofs.lemmas.List.{drop_all}
use Rattle.generators.specs.declared.item.Item.{Item}
use Rattle.generators.specs.Generators.{Each}
use Rattle.harness.specs.Fitness.{Passes}
use Rattle.harness.proofs.Walking.{comes_on, comes_not, drop_at, each_at}
use Rattle.harness.proofs.fitness.each_passes.Goals as goal

pub returns-then-not-item_passes : goal.returns-then-not-item_passes
returns-then-not-item_passes c =
    let P = λ (x : Item). Passes c.args.test x in
    let xs = c.args.items.now in
    let i = c.loop-item.item-index in
    let x = c.item-item.result in (
      λ h. cc,
      λ all. absurd (comes_not (Each P (drop i xs)) (Each P xs) (Each P (drop (i + 1) xs)) (P x) c.loop-item.invariant
          (each_at P xs (drop i xs) (drop (i + 1) xs) x (drop_at xs i x c.loop-item-test.true c.item-item.is)) (λ p. true≢false (sym (c.if-not-item_passes.ensures.1 p))) all),
    )

pub loop-item-preserved : goal.loop-item-preserved
loop-item-preserved c =
    let P = λ (x : Item). Passes c.args.test x in
    let xs = c.args.items.now in
    let i = c.loop-item.item-index in
    let x = c.item-item.result in
    comes_on (Each P (drop i xs)) (Each P xs) (Each P (drop (i + 1) xs)) (P x) c.loop-item.invariant
    (each_at P xs (drop i xs) (drop (i + 1) xs) x (drop_at xs i x c.loop-item-test.true c.item-item.is)) (c.if-not-item_passes.ensures.0 refl)

pub returns : goal.returns
returns c =
    let P = λ (x : Item). Passes c.args.test x in (
      λ h. c.loop-item.invariant.0 (subst (Each P) (sym (drop_all c.loop-item.item-index c.args.items.now c.loop-item-test.false)) tt),
      λ all. refl,
    )
