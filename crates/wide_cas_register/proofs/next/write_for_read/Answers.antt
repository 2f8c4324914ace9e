use Rattle.std.proofs.Common.{◌≡◌, ◌∙◌, ℤ, subst, sym, to_z, of_z, w64}
use Rattle.std.specs.List.{Contains}
use Rattle.std.proofs.lemmas.Bool.{true≢false}
use Rattle.std.proofs.lemmas.Int.{to_z-of_z}
use Rattle.wide_cas_register.specs.declared.row.Row.{Row}
use Rattle.wide_cas_register.specs.Facts.{AllFoundWith, IsFoundWith}
use Rattle.wide_cas_register.proofs.Makings.{passed_all, passed_each, tried_all, tried_each, whole_all, whole_each}
use Rattle.wide_cas_register.proofs.next.write_for_read.Goals as goal
use Rattle.wide_cas_register.proofs.next.write_for_read.Goals.{then-is_free+in_ok-put+in_ok-push, else-is_free}

pub loop-call-preserved : goal.loop-call-preserved
loop-call-preserved c =
    let value : ℤ = to_z w64 (of_z w64 c.args.value) in
    let calls = c.args.calls.now in
    let row = c.args.row.now in
    let read = c.args.read.now in
    let i = c.loop-call.call-index in
    let was = c.loop-call.made.items in
    let inv = c.loop-call.invariant in
    elim c.if-is_free.branch [
      | then-is_free+in_ok-put+in_ok-push w ↦
          rw w.made-is (record {
            each = tried_each calls row read value i _ c.loop-call-test.true was inv.each inv.all w.in_ok-put.put w.push.new.self.items w.in_ok-push.ensures.items (c.is_free.ensures.0 w.if-is_free.true) w.in_ok-put.ensures;
            all = tried_all calls row read value i _ c.loop-call-test.true was inv.each inv.all w.in_ok-put.put w.push.new.self.items w.in_ok-push.ensures.items (c.is_free.ensures.0 w.if-is_free.true) w.in_ok-put.ensures;
          })
      | else-is_free w ↦
          rw w.made-is (record {
            each = passed_each calls row read value i read c.loop-call-test.true was inv.each inv.all;
            all = passed_all calls row read value i _ c.loop-call-test.true was inv.each inv.all (λ f. true≢false (sym (c.is_free.ensures.1 f) ∙ w.if-is_free.false));
          })
    ]

pub returns-clause-each : goal.returns-clause-each
returns-clause-each c =
    let value : ℤ = to_z w64 (of_z w64 c.args.value) in
    let same : value ≡ c.args.value = to_z-of_z w64 c.args.value c.ranges.value in
    subst (λ v. (new : Row) → Contains c.loop-call.made.items new → IsFoundWith c.args.calls.now c.args.calls.now c.args.row.now c.args.read.now v new) same
    (whole_each c.args.calls.now c.args.row.now c.args.read.now value c.loop-call.call-index c.loop-call-test.false c.loop-call.made.items c.loop-call.invariant.each)

pub returns-clause-all : goal.returns-clause-all
returns-clause-all c =
    let value : ℤ = to_z w64 (of_z w64 c.args.value) in
    let same : value ≡ c.args.value = to_z-of_z w64 c.args.value c.ranges.value in
    subst (λ v. AllFoundWith c.args.calls.now c.args.calls.now c.args.row.now c.args.read.now v c.loop-call.made.items) same
    (whole_all c.args.calls.now c.args.row.now c.args.read.now value c.loop-call.call-index c.loop-call-test.false c.loop-call.made.items c.loop-call.invariant.all)
