-- the meaning of `==` for the two sets
use Rattle.std.proofs.Common.{◌∙◌, sym}
use Rattle.std.specs.Cmp.Lexicographic.{pointwise_decides}
use Rattle.std.proofs.lemmas.Bool.Decides.{Decides-int_eq}
use Rattle.values.proofs.members.Members.same.Goals as goal

pub returns : goal.returns
returns c =
    let d = pointwise_decides Decides-int_eq c.args.self.now c.args.other.now in
    ((λ is. d.0 (sym c.eq.ensures ∙ is)), (λ e. c.eq.ensures ∙ d.1 e))
