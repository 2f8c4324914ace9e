use Rattle.std.proofs.Common.{◌≡◌, ◌∙◌, ℤ, inr, subst, sym, to_z, of_z, w64}
use Rattle.std.proofs.lemmas.Bool.{true≢false}
use Rattle.std.proofs.lemmas.Int.{to_z-of_z}
use Rattle.wide_register.specs.Facts.{CanFind, IsWithoutId}
use Rattle.wide_register.proofs.Making.{AllRead, EachRead, has_alone}
use Rattle.wide_register.proofs.next.end_read.Goals as goal

pub returns-then-may_find-clause-all : goal.returns-then-may_find-clause-all
returns-then-may_find-clause-all c =
    let passed : ℤ = to_z w64 (of_z w64 c.args.value) in
    let same : passed ≡ c.args.value = to_z-of_z w64 c.args.value c.ranges.value in
    let found : CanFind c.args.row.now c.args.value c.args.read.now.since = subst (λ v. CanFind c.args.row.now v c.args.read.now.since) same (c.may_answer-may_find.ensures.0 c.if-may_find.true) in (
      (λ n. has_alone (IsWithoutId c.args.read.now.id c.args.row.now) c.in_ok-made.made.items c.in_ok-out.out c.in_ok-made.ensures c.in_ok-out.ensures),
      (λ n. absurd (n found)),
    )

pub returns-clause-each : goal.returns-clause-each
returns-clause-each c =
    let passed : ℤ = to_z w64 (of_z w64 c.args.value) in
    let same : passed ≡ c.args.value = to_z-of_z w64 c.args.value c.ranges.value in
    let none : ¬ CanFind c.args.row.now c.args.value c.args.read.now.since = (λ n. true≢false (sym (c.may_answer-may_find.ensures.1 (subst (λ v. CanFind c.args.row.now v c.args.read.now.since) (sym same) n)) ∙ c.if-may_find.false)) in
    let each = subst (λ v. EachRead c.args.calls.now c.args.moment c.args.row.now c.args.read.now v c.in_ok-written.written.items) same c.in_ok-written.ensures.each in
    λ new h. inr (none, each new h)

pub returns-clause-all : goal.returns-clause-all
returns-clause-all c =
    let passed : ℤ = to_z w64 (of_z w64 c.args.value) in
    let same : passed ≡ c.args.value = to_z-of_z w64 c.args.value c.ranges.value in
    let none : ¬ CanFind c.args.row.now c.args.value c.args.read.now.since = (λ n. true≢false (sym (c.may_answer-may_find.ensures.1 (subst (λ v. CanFind c.args.row.now v c.args.read.now.since) (sym same) n)) ∙ c.if-may_find.false)) in
    let all = subst (λ v. AllRead c.args.calls.now c.args.moment c.args.row.now c.args.read.now v c.in_ok-written.written.items) same c.in_ok-written.ensures.all in
    ((λ f. absurd (none f)), (λ n. all))
