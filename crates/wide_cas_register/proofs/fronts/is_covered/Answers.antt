use Rattle.std.proofs.Common.{◌∙◌, refl, sym}
use Rattle.std.proofs.lemmas.Bool.{true≢false}
use Rattle.wide_cas_register.specs.declared.fronts.Front.{Front}
use Rattle.wide_cas_register.specs.Fronts.{IsLessBy}
use Rattle.wide_cas_register.proofs.Loops.{with_next, of_all}
use Rattle.wide_cas_register.proofs.fronts.is_covered.Goals as goal

pub returns-then-is_less : goal.returns-then-is_less
returns-then-is_less c = (
  (λ t. (c.other-item.result, (c.loop-other.other-index, c.loop-other-test.true, sym c.other-item.is), (c.is_less.ensures.0 c.if-is_less.true).is)),
  (λ k. refl),
)

pub loop-other-preserved : goal.loop-other-preserved
loop-other-preserved c = with_next (λ (g : Front). ¬ IsLessBy c.args.calls.now c.args.front.now g) c.args.fronts.now c.loop-other.other-index c.other-item.result c.loop-other-test.true c.other-item.is c.loop-other.invariant
    (λ m. true≢false (sym (c.is_less.ensures.1 (record { is = m })) ∙ c.if-is_less.false))

pub returns : goal.returns
returns c = (
  (λ f. absurd (true≢false (sym f))),
  (λ k. absurd (of_all (λ (g : Front). ¬ IsLessBy c.args.calls.now c.args.front.now g) c.args.fronts.now c.loop-other.other-index c.loop-other-test.false c.loop-other.invariant k.0 k.1 k.2)),
)
