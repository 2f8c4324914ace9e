-- where the sums are the same the spans are compared, and a set has but one list of them; sets whose sums differ have other
-- members
use Rattle.std.proofs.Common.{◌∙◌, sym, ap, ⊎_elim}
use Rattle.std.specs.Ordering.{int_eq}
use Rattle.std.specs.Cmp.Lexicographic.{pointwise, pointwise_decides}
use Rattle.std.proofs.lemmas.Bool.{cases_Bool, ne_eqb}
use Rattle.std.proofs.lemmas.Bool.Decides.{Decides-int_eq, same_from_decides}
use Rattle.values.specs.Comparisons.{ints_eq-exact}
use Rattle.values.specs.Sums.{sum_of}
use Rattle.values.specs.Spans.{integers_in}
use Rattle.values.proofs.InSpans.{one_list}
use Rattle.values.proofs.spans.SpansPartialEq.eq.Goals as goal

pub returns-then-self-other : goal.returns-then-self-other
returns-then-self-other c =
    let xs = c.args.self.now in
    let ys = c.args.other.now in
    same_from_decides c.same.result (pointwise int_eq xs ys) (
      (λ is. sym c.self.view_is ∙ ap integers_in (c.same.ensures.0 is) ∙ c.other.view_is),
      (λ e. c.same.ensures.1 (one_list c.self.inside.spans c.other.inside.spans c.self.invariant.apart c.other.invariant.apart (c.self.view_is ∙ e ∙ sym c.other.view_is))),
    )
    (pointwise_decides Decides-int_eq xs ys)

pub returns-else-self-other : goal.returns-else-self-other
returns-else-self-other c =
    let xs = c.args.self.now in
    let ys = c.args.other.now in
    ⊎_elim
    (λ e. absurd (c.if-self-other.false (c.self.invariant.sums ∙ ap sum_of (c.self.view_is ∙ ints_eq-exact xs ys e ∙ sym c.other.view_is) ∙ sym c.other.invariant.sums)))
    (λ e. ne_eqb c.self.inside.sum c.other.inside.sum c.if-self-other.false ∙ sym e)
    (cases_Bool (pointwise int_eq xs ys))
