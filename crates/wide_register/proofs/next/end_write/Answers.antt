use Rattle.std.proofs.Common.{◌≡◌, ◌∙◌, ℤ, Some, IsTrue, subst, sym, to_z, of_z, w64}
use Rattle.std.specs.List.{Contains}
use Rattle.std.proofs.lemmas.Bool.{true≢false}
use Rattle.std.proofs.lemmas.Int.{to_z-of_z}
use Rattle.wide_register.specs.Facts.{Has, IsPut, IsWithoutId}
use Rattle.wide_register.proofs.Making.{EachPut, has_alone, write_all, write_each}
use Rattle.wide_register.proofs.next.end_write.Goals as goal

pub returns-then-needed-clause-all : goal.returns-then-needed-clause-all
returns-then-needed-clause-all c =
    let id = c.args.write.now.id in
    let needed : Contains c.args.row.now.needed.items id = subst (λ l. Contains l id) c.deref.ensures.value (c.has_id-needed.ensures.0 c.if-needed.true) in (
      (λ n. has_alone (IsWithoutId id c.args.row.now) c.in_ok-made.made.items c.in_ok-out.out c.in_ok-made.ensures c.in_ok-out.ensures),
      (λ n. absurd (n needed)),
    )

pub returns-clause-each : goal.returns-clause-each
returns-clause-each c =
    let passed : ℤ = to_z w64 (of_z w64 c.args.value) in
    let same : passed ≡ c.args.value = to_z-of_z w64 c.args.value c.ranges.value in
    let row = c.args.row.now in
    let write = c.args.write.now in
    let made = c.put_both.new.made.items in
    write_each c.args.moment row write c.args.value
    (λ n. true≢false (sym (c.has_id-needed.ensures.1 (subst (λ l. Contains l write.id) (sym c.deref.ensures.value) n)) ∙ c.if-needed.false))
    (IsTrue c.has_door-may_before.result) c.has_door-may_before.ensures.0 c.has_door-may_before.ensures.1 c.new-made.result.items made c.new-made.ensures.items
    (subst (λ v. EachPut c.args.moment row c.new-made.result.items write.id v write.id (IsTrue c.has_door-may_before.result) made) same c.in_ok-put_both.ensures.each)

pub returns-clause-all : goal.returns-clause-all
returns-clause-all c =
    let passed : ℤ = to_z w64 (of_z w64 c.args.value) in
    let same : passed ≡ c.args.value = to_z-of_z w64 c.args.value c.ranges.value in
    let row = c.args.row.now in
    let write = c.args.write.now in
    let made = c.put_both.new.made.items in
    write_all c.args.moment row write c.args.value
    (λ n. true≢false (sym (c.has_id-needed.ensures.1 (subst (λ l. Contains l write.id) (sym c.deref.ensures.value) n)) ∙ c.if-needed.false))
    (IsTrue c.has_door-may_before.result) c.has_door-may_before.ensures.0 c.has_door-may_before.ensures.1 c.new-made.result.items made c.new-made.ensures.items
    (subst (λ v. Has made (IsPut write.id row.state c.args.moment (Some v) write.id row)) same c.in_ok-put_both.ensures.behind)
    (subst (λ v. IsTrue c.has_door-may_before.result → Has made (IsPut write.id (Some v) row.door row.state write.id row)) same c.in_ok-put_both.ensures.before)
