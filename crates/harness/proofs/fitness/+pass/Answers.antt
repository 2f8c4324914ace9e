use Rattle.std.proofs.Common.{◌≡◌, ◌↔◌, ◌+◌, Bool, List, IsTrue, drop, refl, sym, ap, ◌∙◌, subst, true≢false}
use Rattle.std.proofs.lemmas.List.{drop_all}
use Rattle.generators.specs.declared.item.Item.{Item}
use Rattle.generators.specs.declared.form.Gen.{Gen}
use Rattle.generators.specs.Generators.{Generator, Generators, generator_of, generators_of, mix, seq, phases, each_thread, AllItems, AllItemsOf}
use Rattle.generators.proofs.Views.{view-Ops, view-Mix, view-Seq, view-Phases, view-EachThread}
use Rattle.harness.specs.declared.fitness.Test.{Test}
use Rattle.harness.specs.Fitness.{Passes}
use Rattle.harness.proofs.Walking.{comes_on, comes_not, drop_at, each_turn, children_at}
use Rattle.harness.proofs.fitness.+pass.Goals as goal

-- a form that has children
by_children : (test : Test) (g : Gen) (children shown : List Gen) (form : Generators → Generator) → ((gs : Generators) → AllItems (Passes test) (form gs) ≡ AllItemsOf (Passes test) gs) → (r : Bool)
    → generator_of g ≡ form (generators_of children) → shown ≡ children → (IsTrue r ↔ AllItemsOf (Passes test) (generators_of shown)) → IsTrue r ↔ AllItems (Passes test) (generator_of g)
by_children test g children shown form same r is also h =
    subst (λ (x : Generator). IsTrue r ↔ AllItems (Passes test) x) (sym is)
    (subst (λ (T : Type 0). IsTrue r ↔ T) (sym (same (generators_of children)))
    (subst (λ (l : List Gen). IsTrue r ↔ AllItemsOf (Passes test) (generators_of l)) also h))

pub all_items_pass-returns-in-Mix : goal.all_items_pass-returns-in-Mix
all_items_pass-returns-in-Mix t c =
    by_children c.args.test c.args.generator.now c.in-Mix.children.items c.deref-in-Mix.result.now mix (λ gs. refl) c.all_children_pass.result (ap generator_of c.in-Mix.is ∙ view-Mix c.in-Mix.children) c.deref-in-Mix.ensures.value c.all_children_pass.ensures

pub all_items_pass-returns-in-Seq : goal.all_items_pass-returns-in-Seq
all_items_pass-returns-in-Seq t c =
    by_children c.args.test c.args.generator.now c.in-Seq.children.items c.deref-in-Seq.result.now seq (λ gs. refl) c.all_children_pass-in-Seq.result (ap generator_of c.in-Seq.is ∙ view-Seq c.in-Seq.children) c.deref-in-Seq.ensures.value c.all_children_pass-in-Seq.ensures

pub all_items_pass-returns-in-Phases : goal.all_items_pass-returns-in-Phases
all_items_pass-returns-in-Phases t c =
    by_children c.args.test c.args.generator.now c.in-Phases.children.items c.deref-in-Phases.result.now phases (λ gs. refl) c.all_children_pass-in-Phases.result (ap generator_of c.in-Phases.is ∙ view-Phases c.in-Phases.children) c.deref-in-Phases.ensures.value c.all_children_pass-in-Phases.ensures

pub all_items_pass-returns-in-EachThread : goal.all_items_pass-returns-in-EachThread
all_items_pass-returns-in-EachThread t c =
    by_children c.args.test c.args.generator.now c.in-EachThread.children.items c.deref-in-EachThread.result.now each_thread (λ gs. refl) c.all_children_pass-in-EachThread.result (ap generator_of c.in-EachThread.is ∙ view-EachThread c.in-EachThread.children) c.deref-in-EachThread.ensures.value c.all_children_pass-in-EachThread.ensures

pub all_items_pass-returns-in-Ops : goal.all_items_pass-returns-in-Ops
all_items_pass-returns-in-Ops t c =
    let turn = each_turn (Passes c.args.test) c.items.result.now c.in-Ops.items c.items.ensures in
    subst (λ (x : Generator). IsTrue c.each_passes.result ↔ AllItems (Passes c.args.test) x) (sym (ap generator_of c.in-Ops.is ∙ view-Ops c.in-Ops.items))
    ((λ h. turn.0 (c.each_passes.ensures.0 h)), (λ h. c.each_passes.ensures.1 (turn.1 h)))

pub all_children_pass-returns-then-not-all_items_pass : goal.all_children_pass-returns-then-not-all_items_pass
all_children_pass-returns-then-not-all_items_pass t c =
    let P = λ (x : Item). Passes c.args.test x in
    let xs = c.args.children.now in
    let i = c.loop-child.child-index in
    let x = c.child-item.result in (
      λ h. cc,
      λ all. absurd (comes_not (AllItemsOf P (generators_of (drop i xs))) (AllItemsOf P (generators_of xs)) (AllItemsOf P (generators_of (drop (i + 1) xs))) (AllItems P (generator_of x)) c.loop-child.invariant
          (children_at P (drop i xs) (drop (i + 1) xs) x (drop_at xs i x c.loop-child-test.true c.child-item.is)) (λ p. true≢false (sym (c.if-not-all_items_pass.ensures.1 p))) all),
    )

pub all_children_pass-loop-child-preserved : goal.all_children_pass-loop-child-preserved
all_children_pass-loop-child-preserved t c =
    let P = λ (x : Item). Passes c.args.test x in
    let xs = c.args.children.now in
    let i = c.loop-child.child-index in
    let x = c.child-item.result in
    comes_on (AllItemsOf P (generators_of (drop i xs))) (AllItemsOf P (generators_of xs)) (AllItemsOf P (generators_of (drop (i + 1) xs))) (AllItems P (generator_of x)) c.loop-child.invariant
    (children_at P (drop i xs) (drop (i + 1) xs) x (drop_at xs i x c.loop-child-test.true c.child-item.is)) (c.if-not-all_items_pass.ensures.0 refl)

pub all_children_pass-returns : goal.all_children_pass-returns
all_children_pass-returns t c =
    let P = λ (x : Item). Passes c.args.test x in (
      λ h. c.loop-child.invariant.0 (subst (λ (l : List Gen). AllItemsOf P (generators_of l)) (sym (drop_all c.loop-child.child-index c.args.children.now c.loop-child-test.false)) tt),
      λ all. refl,
    )
