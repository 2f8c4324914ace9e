-- Consequences of the clauses about a result.
use Rattle.std.proofs.Common.{Result, Ok, Err, IfOk, IfErr}
use Rattle.std.specs.Prelude.{IsErrAnd}

pub ok_both : {A E : Type 0} (r : Result A E) {P Q T : A → Type 0} → IfOk r P → IfOk r Q → ((x : A) → P x → Q x → T x) → IfOk r T
ok_both (Ok x) p q f = f x p q
ok_both (Err e) p q f = tt

pub ok_then : {A E : Type 0} (r : Result A E) {P T : A → Type 0} → IfOk r P → ((x : A) → P x → T x) → IfOk r T
ok_then (Ok x) p f = f x p
ok_then (Err e) p f = tt

pub err_then : {A E : Type 0} (r : Result A E) {P T : E → Type 0} → IfErr r P → ((e : E) → P e → T e) → IfErr r T
err_then (Ok x) p f = tt
err_then (Err e) p f = f e p

-- of the error that a `?` makes
pub err_from : {A E : Type 0} (r : Result A E) {P T : E → Type 0} → IsErrAnd r P → ((e : E) → P e → T e) → IfErr r T
err_from (Ok x) p f = tt
err_from (Err e) p f = f e p
