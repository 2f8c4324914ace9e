-- a value that is put in
use Rattle.std.proofs.Common.{◌≡◌, pos, to_z, of_z, w64, ◌∷◌, sym, ◌∙◌, subst}
use Rattle.std.specs.List.{Contains}
use Rattle.std.proofs.lemmas.Int.{to_z-of_z}
use Rattle.witness.specs.Requirements.{IsRequirement}
use Rattle.witness.proofs.QueueRequirements.{before_needed, before_unneeded}
use Rattle.witness.proofs.requirement.before_enqueue.Goals as goal

pub returns-in_ok-without-in-Some-clause-requirement : goal.returns-in_ok-without-in-Some-clause-requirement
returns-in_ok-without-in-Some-clause-requirement c = λ call is part later after.
    let passed : to_z w64 (of_z w64 c.args.value) ≡ c.args.value = to_z-of_z w64 c.args.value c.ranges.value in
    subst (λ values. IsRequirement (call ∷ later) (record { values = values; more = c.args.requirement.more })) (sym c.in_ok-without-in-Some.ensures)
    (before_needed call later c.args.value is part c.args.requirement c.in-Some.at (pos 0) c.in-Some.ensures.0 (c.in-Some.ensures.1 ∙ passed) after)

pub returns-in-None-clause-requirement : goal.returns-in-None-clause-requirement
returns-in-None-clause-requirement c = λ call is part later after.
    let passed : to_z w64 (of_z w64 c.args.value) ≡ c.args.value = to_z-of_z w64 c.args.value c.ranges.value in
    subst (λ more. IsRequirement (call ∷ later) (record { values = c.args.requirement.values; more = more })) (sym c.saturating_sub.ensures)
    (before_unneeded call later c.args.value is part c.args.requirement (subst (λ v. ¬ Contains c.args.requirement.values v) passed c.in-None.ensures) after)
