use Rattle.std.proofs.Common.{◌≡◌, Some, None, inl, inr, refl, sym, ◌∙◌, subst, arith}
use Rattle.std.proofs.lemmas.Bool.{true≢false}
use Rattle.wide_set.specs.Queries.{IsNoLater}
use Rattle.wide_set.proofs.Searching.{not_before_first, before_first}
use Rattle.wide_set.proofs.queries.first_with_add.Goals as goal

pub returns-in_default : goal.returns-in_default
returns-in_default c = record {
  from = inl refl;
  least = λ n e out. (let q : None ≡ Some n = sym c.in_default.is ∙ e in cc);
  earlier = λ n h. h;
}

pub returns-then-not-is_earlier : goal.returns-then-not-is_earlier
returns-then-not-is_earlier c = record {
  from = inl refl;
  least = λ n e out. (
      let q : Some c.in-Some.by ≡ Some n = sym c.in-Some.is ∙ e in
      let same : c.in-Some.by ≡ n = cc in
      subst (IsNoLater c.args.first) same (not_before_first c.args.first c.in-Some.by (λ b. true≢false (sym (c.is_earlier.ensures.1 b) ∙ c.if-not-is_earlier.true))));
  earlier = λ n h. h;
}

pub returns-then-has : goal.returns-then-has
returns-then-has c = record {
  from = inl refl;
  least = λ n e out. absurd (out (c.has.ensures.0 c.if-has.true));
  earlier = λ n h. h;
}

pub returns : goal.returns
returns c = record {
  from = inr (sym c.in-Some.is, (λ h. true≢false (sym (c.has.ensures.1 h) ∙ c.if-has.false)));
  least = λ n e out. (
      let q : Some c.in-Some.by ≡ Some n = sym c.in-Some.is ∙ e in
      let same : c.in-Some.by ≡ n = cc in
      omega arith);
  earlier = λ n h. before_first c.args.first c.in-Some.by n (c.is_earlier.ensures.0 c.if-not-is_earlier.false) h;
}
