-- by the operation
use Rattle.std.proofs.Common.{FitsSigned, w64, rules, ap, sym, ◌∙◌}
use Rattle.std.proofs.lemmas.Int.{to_z-of_z}
use Rattle.models.specs.declared.operation.Op.{Op}
use Rattle.models.specs.declared.operation.Part.TheVariants.{Int}
use Rattle.witness.proofs.requirement.requirement_before.Goals as goal

pub returns-in_ok-before_enqueue-in-Enqueue-Int-clause-requirement : goal.returns-in_ok-before_enqueue-in-Enqueue-Int-clause-requirement
returns-in_ok-before_enqueue-in-Enqueue-Int-clause-requirement c = λ call is answered later after.
    let x = c.in-Enqueue-Int.value in
    let fits : FitsSigned w64 x = search rules in
    c.in_ok-before_enqueue-in-Enqueue-Int.ensures.requirement call
    (ap (λ (o : Op). o.name) is ∙ c.in-Enqueue-Int.is-0)
    (ap (λ (o : Op). o.part) is ∙ c.in-Enqueue-Int.is-1 ∙ ap Int (sym (to_z-of_z w64 x fits)))
    later after
