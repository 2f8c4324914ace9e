-- errors
use Rattle.std.specs.Prelude.{IsErrAnd, Result, Ok, Err}

-- an error that says more says less
pub err_and : {T E : Type 0} (r : Result T E) (P Q : E → Type 0) → ((e : E) → P e → Q e) → IsErrAnd r P → IsErrAnd r Q
err_and (Ok x) P Q f h = h
err_and (Err e) P Q f h = f e h
