use Rattle.std.proofs.Common.{◌∙◌, rules, subst, sym}
use Rattle.std.proofs.lemmas.Bool.{true≢false}
use Rattle.std.specs.List.{Contains}
use Rattle.wide_cas_register.proofs.left.is_at_most.Goals as goal

pub returns-then-not-has_ids : goal.returns-then-not-has_ids
returns-then-not-has_ids c = (
  (λ f. absurd (true≢false (sym f))),
  (λ a. absurd (true≢false (sym (c.has_ids.ensures.1 (λ i h. subst (λ l. Contains l i) (sym c.deref.ensures.value) (a.needed i (subst (λ l. Contains l i) c.deref-2.ensures.value h)))) ∙ c.if-not-has_ids.true))),
)

pub returns-then-not-has_finds : goal.returns-then-not-has_finds
returns-then-not-has_finds c = (
  (λ t. absurd (true≢false (sym t))),
  (λ a. absurd (true≢false (sym (c.has_finds.ensures.1 (λ f h. subst (λ l. Contains l f) (sym c.deref-3.ensures.value) (a.finds f (subst (λ l. Contains l f) c.deref-4.ensures.value h)))) ∙ c.if-not-has_finds.true))),
)

pub returns : goal.returns
returns c = (
  (λ t. record {
    state = search rules;
    needed = λ i h. subst (λ l. Contains l i) c.deref.ensures.value (c.has_ids.ensures.0 c.if-not-has_ids.false i (subst (λ l. Contains l i) (sym c.deref-2.ensures.value) h));
    finds = λ f h. subst (λ l. Contains l f) c.deref-3.ensures.value (c.has_finds.ensures.0 c.if-not-has_finds.false f (subst (λ l. Contains l f) (sym c.deref-4.ensures.value) h));
    fits = c.all_fit.ensures.0 t;
  }),
  (λ a. c.all_fit.ensures.1 a.fits),
)
