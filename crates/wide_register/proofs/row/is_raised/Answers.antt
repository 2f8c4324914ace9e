use Rattle.std.proofs.Common.{◌≡◌, ◌∙◌, get_or, pos, subst, w64}
use Rattle.std.proofs.lemmas.Int.{to_z-of_z}
use Rattle.std.proofs.lemmas.List.{get_or_default}
use Rattle.wide_register.specs.declared.row.Passed.{Passed}
use Rattle.wide_register.proofs.Noting.{Noted, new, noted_later}
use Rattle.wide_register.proofs.row.is_raised.Goals as goal

pub returns-then-passed-at-clause-raised : goal.returns-then-passed-at-clause-raised
returns-then-passed-at-clause-raised c t =
    let xs = c.args.passed.now in
    let p : Passed = get_or xs c.args.at (record { value = pos 0; gap = 0 }) in
    let less = c.if-at-passed.false in
    let same : p.value ≡ c.args.value = c.is_of.ensures.0 c.if-not-is_of.false ∙ to_z-of_z w64 c.args.value c.ranges.value in
    subst (λ v. Noted xs (new xs c.args.at c.args.gap p less (get_or_default xs c.args.at (record { value = pos 0; gap = 0 }) p less)) v c.args.gap) same
    (noted_later xs c.args.at c.args.gap p less (get_or_default xs c.args.at (record { value = pos 0; gap = 0 }) p less) c.if-passed-at.true)
