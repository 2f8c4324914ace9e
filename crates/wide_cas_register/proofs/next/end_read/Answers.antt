use Rattle.std.proofs.Common.{◌≡◌, ◌∙◌, ℤ, inr, subst, sym, to_z, of_z, w64}
use Rattle.std.specs.List.{Contains}
use Rattle.std.proofs.lemmas.Bool.{true≢false}
use Rattle.std.proofs.lemmas.Int.{to_z-of_z}
use Rattle.wide_cas_register.specs.declared.row.Row.{Row}
use Rattle.wide_cas_register.specs.Facts.{AllFoundWith, IsFoundWith, IsWithoutId, found_by}
use Rattle.wide_cas_register.proofs.Makings.{has_alone}
use Rattle.wide_cas_register.proofs.next.end_read.Goals as goal

pub returns-then-may_find-clause-all : goal.returns-then-may_find-clause-all
returns-then-may_find-clause-all c =
    let passed : ℤ = to_z w64 (of_z w64 c.args.value) in
    let same : passed ≡ c.args.value = to_z-of_z w64 c.args.value c.ranges.value in
    let found : Contains c.args.row.now.finds.items (found_by c.args.read.now c.args.value) = subst (λ v. Contains c.args.row.now.finds.items (found_by c.args.read.now v)) same
    (subst (λ l. Contains l (found_by c.args.read.now passed)) c.deref.ensures.value (c.has_found-may_find.ensures.0 c.if-may_find.true)) in (
      (λ n. has_alone (IsWithoutId c.args.read.now.id c.args.row.now) c.in_ok-made.made.items c.in_ok-out.out c.in_ok-made.ensures c.in_ok-out.ensures),
      (λ n. absurd (n found)),
    )

pub returns-then-may_before-clause-each : goal.returns-then-may_before-clause-each
returns-then-may_before-clause-each c =
    let passed : ℤ = to_z w64 (of_z w64 c.args.value) in
    let same : passed ≡ c.args.value = to_z-of_z w64 c.args.value c.ranges.value in
    let found = found_by c.args.read.now c.args.value in
    let none : ¬ Contains c.args.row.now.finds.items found = (λ n. true≢false (sym (c.has_found-may_find.ensures.1 (subst (λ v. Contains c.deref.result.now (found_by c.args.read.now v)) (sym same) (subst (λ l. Contains l found) (sym c.deref.ensures.value) n))) ∙ c.if-may_find.false)) in
    let each = subst (λ v. (new : Row) → Contains c.in_ok-written.written.items new → IsFoundWith c.args.calls.now c.args.calls.now c.args.row.now c.args.read.now v new) same c.in_ok-written.ensures.each in
    λ new h. inr (none, c.has_door-may_before.ensures.0 c.if-may_before.true, each new h)

pub returns-then-may_before-clause-all : goal.returns-then-may_before-clause-all
returns-then-may_before-clause-all c =
    let passed : ℤ = to_z w64 (of_z w64 c.args.value) in
    let same : passed ≡ c.args.value = to_z-of_z w64 c.args.value c.ranges.value in
    let found = found_by c.args.read.now c.args.value in
    let none : ¬ Contains c.args.row.now.finds.items found = (λ n. true≢false (sym (c.has_found-may_find.ensures.1 (subst (λ v. Contains c.deref.result.now (found_by c.args.read.now v)) (sym same) (subst (λ l. Contains l found) (sym c.deref.ensures.value) n))) ∙ c.if-may_find.false)) in
    let all = subst (λ v. AllFoundWith c.args.calls.now c.args.calls.now c.args.row.now c.args.read.now v c.in_ok-written.written.items) same c.in_ok-written.ensures.all in
    ((λ f. absurd (none f)), (λ n d. all))

pub returns-clause-all : goal.returns-clause-all
returns-clause-all c =
    let passed : ℤ = to_z w64 (of_z w64 c.args.value) in
    let same : passed ≡ c.args.value = to_z-of_z w64 c.args.value c.ranges.value in
    let found = found_by c.args.read.now c.args.value in
    let none : ¬ Contains c.args.row.now.finds.items found = (λ n. true≢false (sym (c.has_found-may_find.ensures.1 (subst (λ v. Contains c.deref.result.now (found_by c.args.read.now v)) (sym same) (subst (λ l. Contains l found) (sym c.deref.ensures.value) n))) ∙ c.if-may_find.false)) in
    ((λ f. absurd (none f)), (λ n d. absurd (true≢false (sym (c.has_door-may_before.ensures.1 d) ∙ c.if-may_before.false))))
