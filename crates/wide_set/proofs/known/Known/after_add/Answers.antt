use Rattle.std.proofs.Common.{◌≡◌, inl, inr, refl, sym, ap, ◌∙◌, subst, to_z, of_z, w64}
use Rattle.std.specs.List.{Contains}
use Rattle.std.proofs.lemmas.Bool.{true≢false}
use Rattle.std.proofs.lemmas.Int.{to_z-of_z}
use Rattle.wide_set.specs.declared.change.Change.TheVariants.{Logs}
use Rattle.wide_set.proofs.known.Known.after_add.Goals as goal

pub returns-then-has : goal.returns-then-has
returns-then-has c =
    let same : to_z w64 (of_z w64 c.args.value) ≡ c.args.value = to_z-of_z w64 c.args.value c.ranges.value in
    inl (refl, subst (Contains c.args.self.now.base) same (subst (λ l. Contains l (to_z w64 (of_z w64 c.args.value))) c.as_slice.ensures.value (c.has.ensures.0 c.if-has.true)))

pub returns : goal.returns
returns c =
    let same : to_z w64 (of_z w64 c.args.value) ≡ c.args.value = to_z-of_z w64 c.args.value c.ranges.value in
    inr (
      ap (λ v. Logs c.args.call.now.id (record { value = v; since = c.args.call.now.since; by = c.args.by })) same,
      (λ h. true≢false (sym (c.has.ensures.1 (subst (λ l. Contains l (to_z w64 (of_z w64 c.args.value))) (sym c.as_slice.ensures.value) (subst (Contains c.args.self.now.base) (sym same) h))) ∙ c.if-has.false)),
    )
