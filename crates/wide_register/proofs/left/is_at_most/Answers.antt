use Rattle.std.proofs.Common.{◌∙◌, rules, subst, sym}
use Rattle.std.proofs.lemmas.Bool.{true≢false}
use Rattle.std.specs.List.{Contains}
use Rattle.wide_register.specs.Facts.{IsPassedIn}
use Rattle.wide_register.proofs.left.is_at_most.Goals as goal

pub returns-then-not-has_ids : goal.returns-then-not-has_ids
returns-then-not-has_ids c = (
  (λ f. absurd (true≢false (sym f))),
  (λ a. absurd (true≢false (sym (c.has_ids.ensures.1 (λ i h. subst (λ l. Contains l i) (sym c.deref.ensures.value) (a.needed i (subst (λ l. Contains l i) c.deref-2.ensures.value h)))) ∙ c.if-not-has_ids.true))),
)

pub returns-then-not-has_passed : goal.returns-then-not-has_passed
returns-then-not-has_passed c = (
  (λ t. absurd (true≢false (sym t))),
  (λ a. absurd (true≢false (sym (c.has_passed.ensures.1 (λ p h. subst (λ l. IsPassedIn l p) (sym c.deref-3.ensures.value) (a.passed p (subst (λ l. Contains l p) c.deref-4.ensures.value h)))) ∙ c.if-not-has_passed.true))),
)

pub returns : goal.returns
returns c = (
  (λ t. record {
    state = search rules;
    needed = λ i h. subst (λ l. Contains l i) c.deref.ensures.value (c.has_ids.ensures.0 c.if-not-has_ids.false i (subst (λ l. Contains l i) (sym c.deref-2.ensures.value) h));
    passed = λ p h. subst (λ l. IsPassedIn l p) c.deref-3.ensures.value (c.has_passed.ensures.0 c.if-not-has_passed.false p (subst (λ l. Contains l p) (sym c.deref-4.ensures.value) h));
    fits = c.all_fit.ensures.0 t;
  }),
  (λ a. c.all_fit.ensures.1 a.fits),
)
