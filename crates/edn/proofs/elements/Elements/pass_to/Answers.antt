use Rattle.std.proofs.Common.{ap, subst, sym}
use Rattle.edn.specs.Elements.{IsNextAt}
use Rattle.edn.proofs.OneByOne.{left_next, left_shorter}
use Rattle.edn.proofs.elements.Elements.pass_to.Goals as goal

pub invariant_of-self : goal.invariant_of-self
invariant_of-self c =
    let next = subst (λ t. IsNextAt t c.requires.0 c.args.rest.now) (sym (ap (λ r. r.left) c.self.view_is)) c.requires.1 in
    (_, left_next c.self.inside.bytes.now c.self.invariant.0 c.self.inside.rest.now c.args.rest.now c.requires.0 next c.self.invariant.1)

pub returns-clause-given : goal.returns-clause-given
returns-clause-given c = λ v next given. left_next c.args.self.now.bytes given c.args.self.now.left c.args.rest.now v next

pub returns-clause-shorter : goal.returns-clause-shorter
returns-clause-shorter c = left_shorter c.args.self.now.left c.args.rest.now c.requires.0 c.requires.1
