-- Facts of any `Result`.
use Rattle.std.specs.Prelude.{Result, Ok, Err, OnOk, OnErr, IfErr}
use Rattle.std.proofs.Common.{◌≡◌, subst, sym}

pub on_err : {X E P : Type 0} (r : Result X E) → P → OnErr r P
on_err (Ok x) p = tt
on_err (Err e) p = p

pub on_ok : {X E P : Type 0} (r : Result X E) → P → OnOk r P
on_ok (Ok x) p = p
on_ok (Err e) p = tt

pub if_err : {X E : Type 0} {P : E → Type 0} (r : Result X E) → ((e : E) → P e) → IfErr r P
if_err (Ok x) p = tt
if_err (Err e) p = p e

pub if_err_at : {X E : Type 0} (P : E → Type 0) (r : Result X E) (e : E) → r ≡ Err e → P e → IfErr r P
if_err_at P r e same p = subst (λ x. IfErr x P) (sym same) p
