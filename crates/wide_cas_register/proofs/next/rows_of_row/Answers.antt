use Rattle.std.proofs.Common.{◌≡◌, FitsSigned, rules, subst, sym, to_z, of_z, w64}
use Rattle.std.specs.Prelude.{IfOk}
use Rattle.std.specs.List.{Contains}
use Rattle.std.proofs.lemmas.Int.{to_z-of_z}
use Rattle.wide_cas_register.specs.declared.next.Effect.TheVariants.{EndsRead, EndsWrite}
use Rattle.wide_cas_register.specs.declared.row.Row.{Row}
use Rattle.wide_cas_register.specs.Facts.{AllOfRow, IsBegun, IsSame, IsWithoutId, OfRow}
use Rattle.wide_cas_register.proofs.Makings.{has_alone}
use Rattle.wide_cas_register.proofs.next.rows_of_row.Goals as goal

pub returns-in_ok-alone_same-in-Keeps-clause-all : goal.returns-in_ok-alone_same-in-Keeps-clause-all
returns-in_ok-alone_same-in-Keeps-clause-all c = subst (λ d. AllOfRow c.args.calls.now d c.args.row.now (Contains c.in_ok-alone_same-in-Keeps.alone_same.items)) (sym c.in-Keeps.is)
    (has_alone (IsSame c.args.row.now) c.in_ok-alone_same-in-Keeps.alone_same.items c.in_ok-same-in-Keeps.same c.in_ok-alone_same-in-Keeps.ensures c.in_ok-same-in-Keeps.ensures)

pub returns-in_ok-alone_begun-in-Begins-clause-all : goal.returns-in_ok-alone_begun-in-Begins-clause-all
returns-in_ok-alone_begun-in-Begins-clause-all c = subst (λ d. AllOfRow c.args.calls.now d c.args.row.now (Contains c.in_ok-alone_begun-in-Begins.alone_begun.items)) (sym c.in-Begins.is)
    (has_alone (IsBegun c.in-Begins.id c.args.row.now) c.in_ok-alone_begun-in-Begins.alone_begun.items c.in_ok-begun-in-Begins.begun c.in_ok-alone_begun-in-Begins.ensures c.in_ok-begun-in-Begins.ensures)

pub returns-in_ok-alone_out-in-Leaves-clause-all : goal.returns-in_ok-alone_out-in-Leaves-clause-all
returns-in_ok-alone_out-in-Leaves-clause-all c = subst (λ d. AllOfRow c.args.calls.now d c.args.row.now (Contains c.in_ok-alone_out-in-Leaves.alone_out.items)) (sym c.in-Leaves.is)
    (has_alone (IsWithoutId c.in-Leaves.id c.args.row.now) c.in_ok-alone_out-in-Leaves.alone_out.items c.in_ok-out-in-Leaves.out c.in_ok-alone_out-in-Leaves.ensures c.in_ok-out-in-Leaves.ensures)

pub returns-in-Fails-clause-each : goal.returns-in-Fails-clause-each
returns-in-Fails-clause-each c = subst (λ d. IfOk c.fail.result (λ made. (new : Row) → Contains made.items new → OfRow c.args.calls.now d c.args.row.now new)) (sym c.in-Fails.is) c.fail.ensures.each

pub returns-in-Fails-clause-all : goal.returns-in-Fails-clause-all
returns-in-Fails-clause-all c = subst (λ d. IfOk c.fail.result (λ made. AllOfRow c.args.calls.now d c.args.row.now (Contains made.items))) (sym c.in-Fails.is) c.fail.ensures.all

pub returns-in-EndsCas-clause-each : goal.returns-in-EndsCas-clause-each
returns-in-EndsCas-clause-each c = subst (λ d. IfOk c.end_cas.result (λ made. (new : Row) → Contains made.items new → OfRow c.args.calls.now d c.args.row.now new)) (sym c.in-EndsCas.is) c.end_cas.ensures.each

pub returns-in-EndsCas-clause-all : goal.returns-in-EndsCas-clause-all
returns-in-EndsCas-clause-all c = subst (λ d. IfOk c.end_cas.result (λ made. AllOfRow c.args.calls.now d c.args.row.now (Contains made.items))) (sym c.in-EndsCas.is) c.end_cas.ensures.all

pub returns-in-EndsWrite-clause-each : goal.returns-in-EndsWrite-clause-each
returns-in-EndsWrite-clause-each c =
    let value = c.in-EndsWrite.value in
    let fits : FitsSigned w64 value = search rules in
    let same : to_z w64 (of_z w64 value) ≡ value = to_z-of_z w64 value fits in
    subst (λ d. IfOk c.end_write.result (λ made. (new : Row) → Contains made.items new → OfRow c.args.calls.now d c.args.row.now new)) (sym c.in-EndsWrite.is)
    (subst (λ v. IfOk c.end_write.result (λ made. (new : Row) → Contains made.items new → OfRow c.args.calls.now (EndsWrite c.in-EndsWrite.write v) c.args.row.now new)) same c.end_write.ensures.each)

pub returns-in-EndsWrite-clause-all : goal.returns-in-EndsWrite-clause-all
returns-in-EndsWrite-clause-all c =
    let value = c.in-EndsWrite.value in
    let fits : FitsSigned w64 value = search rules in
    let same : to_z w64 (of_z w64 value) ≡ value = to_z-of_z w64 value fits in
    subst (λ d. IfOk c.end_write.result (λ made. AllOfRow c.args.calls.now d c.args.row.now (Contains made.items))) (sym c.in-EndsWrite.is)
    (subst (λ v. IfOk c.end_write.result (λ made. AllOfRow c.args.calls.now (EndsWrite c.in-EndsWrite.write v) c.args.row.now (Contains made.items))) same c.end_write.ensures.all)

pub returns-in-EndsRead-clause-each : goal.returns-in-EndsRead-clause-each
returns-in-EndsRead-clause-each c =
    let value = c.in-EndsRead.value in
    let fits : FitsSigned w64 value = search rules in
    let same : to_z w64 (of_z w64 value) ≡ value = to_z-of_z w64 value fits in
    subst (λ d. IfOk c.end_read.result (λ made. (new : Row) → Contains made.items new → OfRow c.args.calls.now d c.args.row.now new)) (sym c.in-EndsRead.is)
    (subst (λ v. IfOk c.end_read.result (λ made. (new : Row) → Contains made.items new → OfRow c.args.calls.now (EndsRead c.in-EndsRead.read v) c.args.row.now new)) same c.end_read.ensures.each)

pub returns-in-EndsRead-clause-all : goal.returns-in-EndsRead-clause-all
returns-in-EndsRead-clause-all c =
    let value = c.in-EndsRead.value in
    let fits : FitsSigned w64 value = search rules in
    let same : to_z w64 (of_z w64 value) ≡ value = to_z-of_z w64 value fits in
    subst (λ d. IfOk c.end_read.result (λ made. AllOfRow c.args.calls.now d c.args.row.now (Contains made.items))) (sym c.in-EndsRead.is)
    (subst (λ v. IfOk c.end_read.result (λ made. AllOfRow c.args.calls.now (EndsRead c.in-EndsRead.read v) c.args.row.now (Contains made.items))) same c.end_read.ensures.all)
