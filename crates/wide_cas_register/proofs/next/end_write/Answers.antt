use Rattle.std.proofs.Common.{◌≡◌, ◌∙◌, ℤ, inr, subst, sym, to_z, of_z, w64}
use Rattle.std.specs.List.{Contains}
use Rattle.std.proofs.lemmas.Bool.{true≢false}
use Rattle.std.proofs.lemmas.Int.{to_z-of_z}
use Rattle.wide_cas_register.specs.declared.next.Effect.TheVariants.{EndsWrite}
use Rattle.wide_cas_register.specs.Facts.{IsPutBefore, IsWithoutId, OfRow}
use Rattle.wide_cas_register.proofs.Makings.{each_alone, has_alone}
use Rattle.wide_cas_register.proofs.next.end_write.Goals as goal

pub returns-then-needed-clause-all : goal.returns-then-needed-clause-all
returns-then-needed-clause-all c =
    let id = c.args.write.now.id in
    let needed : Contains c.args.row.now.needed.items id = subst (λ l. Contains l id) c.deref.ensures.value (c.has_id-needed.ensures.0 c.if-needed.true) in (
      (λ n. has_alone (IsWithoutId id c.args.row.now) c.in_ok-made.made.items c.in_ok-out.out c.in_ok-made.ensures c.in_ok-out.ensures),
      (λ n. absurd (n needed)),
    )

pub returns-then-may_before-clause-each : goal.returns-then-may_before-clause-each
returns-then-may_before-clause-each c =
    let id = c.args.write.now.id in
    let row = c.args.row.now in
    let passed : ℤ = to_z w64 (of_z w64 c.args.value) in
    let same : passed ≡ c.args.value = to_z-of_z w64 c.args.value c.ranges.value in
    let none : ¬ Contains row.needed.items id = (λ n. true≢false (sym (c.has_id-needed.ensures.1 (subst (λ l. Contains l id) (sym c.deref.ensures.value) n)) ∙ c.if-needed.false)) in
    each_alone (OfRow c.args.calls.now (EndsWrite c.args.write.now c.args.value) row) c.in_ok-made_before.made_before.items c.in_ok-put.put c.in_ok-made_before.ensures
    (inr (none, c.has_door-may_before.ensures.0 c.if-may_before.true, subst (λ v. IsPutBefore c.args.calls.now c.args.write.now v id row c.in_ok-put.put) same c.in_ok-put.ensures))

pub returns-then-may_before-clause-all : goal.returns-then-may_before-clause-all
returns-then-may_before-clause-all c =
    let id = c.args.write.now.id in
    let row = c.args.row.now in
    let passed : ℤ = to_z w64 (of_z w64 c.args.value) in
    let same : passed ≡ c.args.value = to_z-of_z w64 c.args.value c.ranges.value in
    let none : ¬ Contains row.needed.items id = (λ n. true≢false (sym (c.has_id-needed.ensures.1 (subst (λ l. Contains l id) (sym c.deref.ensures.value) n)) ∙ c.if-needed.false)) in (
      (λ n. absurd (none n)),
      (λ n d. has_alone (IsPutBefore c.args.calls.now c.args.write.now c.args.value id row) c.in_ok-made_before.made_before.items c.in_ok-put.put c.in_ok-made_before.ensures
          (subst (λ v. IsPutBefore c.args.calls.now c.args.write.now v id row c.in_ok-put.put) same c.in_ok-put.ensures)),
    )

pub returns-clause-all : goal.returns-clause-all
returns-clause-all c =
    let id = c.args.write.now.id in
    let row = c.args.row.now in
    let none : ¬ Contains row.needed.items id = (λ n. true≢false (sym (c.has_id-needed.ensures.1 (subst (λ l. Contains l id) (sym c.deref.ensures.value) n)) ∙ c.if-needed.false)) in (
      (λ n. absurd (none n)),
      (λ n d. absurd (true≢false (sym (c.has_door-may_before.ensures.1 d) ∙ c.if-may_before.false))),
    )
