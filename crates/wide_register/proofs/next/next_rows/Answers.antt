use Rattle.std.proofs.Common.{◌≡◌, FitsSigned, rules, subst, sym, to_z, of_z, w64}
use Rattle.std.specs.List.{Contains}
use Rattle.std.proofs.lemmas.Int.{to_z-of_z}
use Rattle.wide_register.specs.declared.next.Effect.TheVariants.{EndsRead, EndsWrite}
use Rattle.wide_register.specs.declared.row.Row.{Row}
use Rattle.wide_register.specs.Facts.{HasNextBy, IsNextBy, IsSame, IsWithoutId}
use Rattle.wide_register.proofs.Making.{has_alone}
use Rattle.wide_register.proofs.next.next_rows.Goals as goal

pub returns-in_ok-alone_same-in-Keeps-clause-all : goal.returns-in_ok-alone_same-in-Keeps-clause-all
returns-in_ok-alone_same-in-Keeps-clause-all c = subst (λ d. HasNextBy c.args.calls.now c.args.moment d c.args.row.now c.in_ok-alone_same-in-Keeps.alone_same.items) (sym c.in-Keeps.is)
    (has_alone (IsSame c.args.row.now) c.in_ok-alone_same-in-Keeps.alone_same.items c.in_ok-same-in-Keeps.same c.in_ok-alone_same-in-Keeps.ensures c.in_ok-same-in-Keeps.ensures)

pub returns-in_ok-alone_out-in-Leaves-clause-all : goal.returns-in_ok-alone_out-in-Leaves-clause-all
returns-in_ok-alone_out-in-Leaves-clause-all c = subst (λ d. HasNextBy c.args.calls.now c.args.moment d c.args.row.now c.in_ok-alone_out-in-Leaves.alone_out.items) (sym c.in-Leaves.is)
    (has_alone (IsWithoutId c.in-Leaves.id c.args.row.now) c.in_ok-alone_out-in-Leaves.alone_out.items c.in_ok-out-in-Leaves.out c.in_ok-alone_out-in-Leaves.ensures c.in_ok-out-in-Leaves.ensures)

pub returns-in_ok-failed-in-Fails-clause-each : goal.returns-in_ok-failed-in-Fails-clause-each
returns-in_ok-failed-in-Fails-clause-each c =
    subst (λ d. (new : Row) → Contains c.in_ok-failed-in-Fails.failed.items new → IsNextBy c.args.calls.now c.args.moment d c.args.row.now new) (sym c.in-Fails.is) c.in_ok-failed-in-Fails.ensures.each

pub returns-in_ok-written-in-EndsWrite-clause-each : goal.returns-in_ok-written-in-EndsWrite-clause-each
returns-in_ok-written-in-EndsWrite-clause-each c =
    let value = c.in-EndsWrite.value in
    let fits : FitsSigned w64 value = search rules in
    let same : to_z w64 (of_z w64 value) ≡ value = to_z-of_z w64 value fits in
    subst (λ d. (new : Row) → Contains c.in_ok-written-in-EndsWrite.written.items new → IsNextBy c.args.calls.now c.args.moment d c.args.row.now new) (sym c.in-EndsWrite.is)
    (subst (λ v. (new : Row) → Contains c.in_ok-written-in-EndsWrite.written.items new → IsNextBy c.args.calls.now c.args.moment (EndsWrite c.in-EndsWrite.write v) c.args.row.now new) same c.in_ok-written-in-EndsWrite.ensures.each)

pub returns-in_ok-written-in-EndsWrite-clause-all : goal.returns-in_ok-written-in-EndsWrite-clause-all
returns-in_ok-written-in-EndsWrite-clause-all c =
    let value = c.in-EndsWrite.value in
    let fits : FitsSigned w64 value = search rules in
    let same : to_z w64 (of_z w64 value) ≡ value = to_z-of_z w64 value fits in
    subst (λ d. HasNextBy c.args.calls.now c.args.moment d c.args.row.now c.in_ok-written-in-EndsWrite.written.items) (sym c.in-EndsWrite.is)
    (subst (λ v. HasNextBy c.args.calls.now c.args.moment (EndsWrite c.in-EndsWrite.write v) c.args.row.now c.in_ok-written-in-EndsWrite.written.items) same c.in_ok-written-in-EndsWrite.ensures.all)

pub returns-in_ok-answered-in-EndsRead-clause-each : goal.returns-in_ok-answered-in-EndsRead-clause-each
returns-in_ok-answered-in-EndsRead-clause-each c =
    let value = c.in-EndsRead.value in
    let fits : FitsSigned w64 value = search rules in
    let same : to_z w64 (of_z w64 value) ≡ value = to_z-of_z w64 value fits in
    subst (λ d. (new : Row) → Contains c.in_ok-answered-in-EndsRead.answered.items new → IsNextBy c.args.calls.now c.args.moment d c.args.row.now new) (sym c.in-EndsRead.is)
    (subst (λ v. (new : Row) → Contains c.in_ok-answered-in-EndsRead.answered.items new → IsNextBy c.args.calls.now c.args.moment (EndsRead c.in-EndsRead.read v) c.args.row.now new) same c.in_ok-answered-in-EndsRead.ensures.each)

pub returns-in_ok-answered-in-EndsRead-clause-all : goal.returns-in_ok-answered-in-EndsRead-clause-all
returns-in_ok-answered-in-EndsRead-clause-all c =
    let value = c.in-EndsRead.value in
    let fits : FitsSigned w64 value = search rules in
    let same : to_z w64 (of_z w64 value) ≡ value = to_z-of_z w64 value fits in
    subst (λ d. HasNextBy c.args.calls.now c.args.moment d c.args.row.now c.in_ok-answered-in-EndsRead.answered.items) (sym c.in-EndsRead.is)
    (subst (λ v. HasNextBy c.args.calls.now c.args.moment (EndsRead c.in-EndsRead.read v) c.args.row.now c.in_ok-answered-in-EndsRead.answered.items) same c.in_ok-answered-in-EndsRead.ensures.all)
