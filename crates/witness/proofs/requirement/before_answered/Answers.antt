-- a value that is answered
use Rattle.std.proofs.Common.{ℤ, FitsSigned, w64, rules, Some, ◌∷◌, ap, sym, ◌∙◌, subst}
use Rattle.std.proofs.lemmas.Int.{to_z-of_z}
use Rattle.values.specs.Multisets.{with_one}
use Rattle.witness.specs.Requirements.{IsRequirement}
use Rattle.witness.proofs.QueueRequirements.{before_one, before_none}
use Rattle.witness.proofs.requirement.before_answered.Goals as goal

pub returns-in-Number-clause-requirement : goal.returns-in-Number-clause-requirement
returns-in-Number-clause-requirement c = λ call is part answered later after.
    let x : ℤ = c.in-Number.value in
    let fits : FitsSigned w64 x = search rules in
    subst (λ values. IsRequirement (call ∷ later) (record { values = values; more = c.args.requirement.more }))
    (sym (c.in_ok-with-in-Number.ensures ∙ ap (λ v. with_one v c.args.requirement.values) (to_z-of_z w64 x fits)))
    (before_one call later is part c.args.requirement x (answered ∙ ap Some c.in-Number.is) after)

pub returns : goal.returns
returns c = record {
  requirement = λ call is part answered later after s. before_none call later is part c.args.answer.now answered c.in_default.not-Number s;
  more = tt;
}
