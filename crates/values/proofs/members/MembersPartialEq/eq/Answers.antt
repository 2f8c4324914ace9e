-- where the sums are the same the members are compared; sets whose sums differ have other members
use Rattle.std.proofs.Common.{◌∙◌, sym, ap, ⊎_elim}
use Rattle.std.specs.Ordering.{int_eq}
use Rattle.std.specs.Cmp.Lexicographic.{pointwise, pointwise_decides}
use Rattle.std.proofs.lemmas.Bool.{cases_Bool, ne_eqb}
use Rattle.std.proofs.lemmas.Bool.Decides.{Decides-int_eq, same_from_decides}
use Rattle.values.specs.Comparisons.{ints_eq-exact}
use Rattle.values.specs.Sums.{sum_of}
use Rattle.values.proofs.members.MembersPartialEq.eq.Goals as goal

pub returns-then-sum : goal.returns-then-sum
returns-then-sum c =
    let xs = c.args.self.now in
    let ys = c.args.other.now in
    same_from_decides c.are_same.result (pointwise int_eq xs ys)
    ((λ is. sym c.as_slice.ensures.value ∙ c.are_same.ensures.0 is ∙ c.as_slice-then-sum.ensures.value), (λ e. c.are_same.ensures.1 (c.as_slice.ensures.value ∙ e ∙ sym c.as_slice-then-sum.ensures.value)))
    (pointwise_decides Decides-int_eq xs ys)

pub returns-else-sum : goal.returns-else-sum
returns-else-sum c =
    let xs = c.args.self.now in
    let ys = c.args.other.now in
    ⊎_elim
    (λ e. absurd (c.if-sum.false (c.sum.ensures ∙ ap sum_of (ints_eq-exact xs ys e) ∙ sym c.sum-2.ensures)))
    (λ e. ne_eqb c.sum.result c.sum-2.result c.if-sum.false ∙ sym e)
    (cases_Bool (pointwise int_eq xs ys))
