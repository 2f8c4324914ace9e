use Rattle.std.proofs.Common.{inl, inr, refl, sym, ◌∙◌}
use Rattle.std.proofs.lemmas.Bool.{true≢false}
use Rattle.wide_set.proofs.log.Log.with_other.Goals as goal

pub returns-then-has : goal.returns-then-has
returns-then-has c = inl (refl, c.has.ensures.0 c.if-has.true)

pub returns : goal.returns
returns c = inr (c.in_ok-log.ensures, (λ h. true≢false (sym (c.has.ensures.1 h) ∙ c.if-has.false)))
