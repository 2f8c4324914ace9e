use Rattle.std.proofs.Common.{◌∙◌, sym}
use Rattle.std.specs.Ordering.{int_eq}
use Rattle.std.specs.Cmp.Lexicographic.{pointwise, pointwise_decides}
use Rattle.std.proofs.lemmas.Bool.Decides.{Decides-int_eq, same_from_decides}
use Rattle.values.proofs.multiset.MultisetPartialEq.eq.Goals as goal

pub returns : goal.returns
returns c =
    let xs = c.args.self.now in
    let ys = c.args.other.now in
    same_from_decides c.same.result (pointwise int_eq xs ys) (
      (λ is. sym c.self.view_is ∙ c.same.ensures.0 is ∙ c.other.view_is),
      (λ e. c.same.ensures.1 (c.self.view_is ∙ e ∙ sym c.other.view_is)),
    )
    (pointwise_decides Decides-int_eq xs ys)
