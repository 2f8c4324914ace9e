use Rattle.std.proofs.Common.{◌∙◌, refl, sym}
use Rattle.std.proofs.lemmas.Bool.{true≢false}
use Rattle.wide_cas_register.specs.declared.row.Row.{Row}
use Rattle.wide_cas_register.specs.Facts.{IsAtMostBy}
use Rattle.wide_cas_register.proofs.Loops.{with_next, of_all}
use Rattle.wide_cas_register.proofs.left.is_covered.Goals as goal

pub returns-then-is_at_most : goal.returns-then-is_at_most
returns-then-is_at_most c = (
  (λ t. (c.other-item.result, (c.loop-other.other-index, c.loop-other-test.true, sym c.other-item.is), c.is_at_most.ensures.0 c.if-is_at_most.true)),
  (λ k. refl),
)

pub loop-other-preserved : goal.loop-other-preserved
loop-other-preserved c = with_next (λ (q : Row). ¬ IsAtMostBy c.args.calls.now c.args.row.now q) c.args.rows.now c.loop-other.other-index c.other-item.result c.loop-other-test.true c.other-item.is c.loop-other.invariant
    (λ m. true≢false (sym (c.is_at_most.ensures.1 m) ∙ c.if-is_at_most.false))

pub returns : goal.returns
returns c = (
  (λ f. absurd (true≢false (sym f))),
  (λ k. absurd (of_all (λ (q : Row). ¬ IsAtMostBy c.args.calls.now c.args.row.now q) c.args.rows.now c.loop-other.other-index c.loop-other-test.false c.loop-other.invariant k.0 k.1 k.2)),
)
