use Rattle.std.proofs.Common.{◌≡◌, FitsSigned, Some, refl, rules, subst, sym, to_z, of_z, w64}
use Rattle.std.specs.Prelude.{IfSome}
use Rattle.std.proofs.lemmas.Int.{to_z-of_z}
use Rattle.wide_cas_register.specs.declared.next.Effect.TheVariants.{EndsRead}
use Rattle.wide_cas_register.specs.Facts.{AllOfFront, OfFront}
use Rattle.wide_cas_register.proofs.next.row_of_front.Goals as goal

pub returns-in_ok-written-in-EndsWrite-clause-each : goal.returns-in_ok-written-in-EndsWrite-clause-each
returns-in_ok-written-in-EndsWrite-clause-each c = subst (λ d. IfSome c.in_ok-written-in-EndsWrite.written (OfFront c.args.calls.now c.args.moment d c.args.front.now)) (sym c.in-EndsWrite.is) c.in_ok-written-in-EndsWrite.ensures.each

pub returns-in_ok-written-in-EndsWrite-clause-all : goal.returns-in_ok-written-in-EndsWrite-clause-all
returns-in_ok-written-in-EndsWrite-clause-all c = subst (λ d. AllOfFront c.args.calls.now c.args.moment d c.args.front.now (λ new. c.in_ok-written-in-EndsWrite.written ≡ Some new)) (sym c.in-EndsWrite.is) c.in_ok-written-in-EndsWrite.ensures.all

pub returns-in_ok-set-in-EndsCas-clause-each : goal.returns-in_ok-set-in-EndsCas-clause-each
returns-in_ok-set-in-EndsCas-clause-each c = subst (λ d. IfSome c.in_ok-set-in-EndsCas.set (OfFront c.args.calls.now c.args.moment d c.args.front.now)) (sym c.in-EndsCas.is) c.in_ok-set-in-EndsCas.ensures.each

pub returns-in_ok-set-in-EndsCas-clause-all : goal.returns-in_ok-set-in-EndsCas-clause-all
returns-in_ok-set-in-EndsCas-clause-all c = subst (λ d. AllOfFront c.args.calls.now c.args.moment d c.args.front.now (λ new. c.in_ok-set-in-EndsCas.set ≡ Some new)) (sym c.in-EndsCas.is) c.in_ok-set-in-EndsCas.ensures.all

pub returns-in_ok-answered-in-EndsRead-clause-each : goal.returns-in_ok-answered-in-EndsRead-clause-each
returns-in_ok-answered-in-EndsRead-clause-each c =
    let value = c.in-EndsRead.value in
    let fits : FitsSigned w64 value = search rules in
    let same : to_z w64 (of_z w64 value) ≡ value = to_z-of_z w64 value fits in
    subst (λ d. IfSome c.in_ok-answered-in-EndsRead.answered (OfFront c.args.calls.now c.args.moment d c.args.front.now)) (sym c.in-EndsRead.is)
    (subst (λ v. IfSome c.in_ok-answered-in-EndsRead.answered (OfFront c.args.calls.now c.args.moment (EndsRead c.in-EndsRead.read v) c.args.front.now)) same c.in_ok-answered-in-EndsRead.ensures.each)

pub returns-in_ok-answered-in-EndsRead-clause-all : goal.returns-in_ok-answered-in-EndsRead-clause-all
returns-in_ok-answered-in-EndsRead-clause-all c =
    let value = c.in-EndsRead.value in
    let fits : FitsSigned w64 value = search rules in
    let same : to_z w64 (of_z w64 value) ≡ value = to_z-of_z w64 value fits in
    subst (λ d. AllOfFront c.args.calls.now c.args.moment d c.args.front.now (λ new. c.in_ok-answered-in-EndsRead.answered ≡ Some new)) (sym c.in-EndsRead.is)
    (subst (λ v. AllOfFront c.args.calls.now c.args.moment (EndsRead c.in-EndsRead.read v) c.args.front.now (λ new. c.in_ok-answered-in-EndsRead.answered ≡ Some new)) same c.in_ok-answered-in-EndsRead.ensures.all)

pub returns-in_ok-out-in-EndsNil-clause-all : goal.returns-in_ok-out-in-EndsNil-clause-all
returns-in_ok-out-in-EndsNil-clause-all c = subst (λ d. AllOfFront c.args.calls.now c.args.moment d c.args.front.now (λ new. (Some c.in_ok-out-in-EndsNil.out) ≡ Some new)) (sym c.in-EndsNil.is) (c.in_ok-out-in-EndsNil.out, c.in_ok-out-in-EndsNil.ensures, refl)
