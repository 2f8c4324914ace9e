-- The clauses of a loop over lines about its refusal, by the reason.
use Rattle.std.proofs.Common.{◌≡◌, ◌≢◌, Bool, true, false, sym, ap, ◌∙◌, subst, inl, inr, ⊎_elim}
use Rattle.std.specs.Prelude.{Result, Ok, Err, IfOk, IfErr}
use Rattle.std.specs.Result.{IsErrAnd}
use Rattle.std.proofs.lemmas.Result.{err_from_is_err_and}
use Rattle.edn.specs.declared.refusal.Refusal.{Refusal}
use Rattle.edn.specs.declared.refusal.Refusal.TheVariants.{NoMemory, ReadFailed, WriteFailed}
use Rattle.line_loop.specs.Stopping.{MayStop}
use Rattle.line_loop.specs.BetweenReads.{MayStopWriting}

-- the error that a `?` passes on
pub given_on : {X : Type 0} (r : Result X Refusal) (why : Refusal) → IsErrAnd r (λ e. e ≡ why) → r ≡ Err why
given_on r why h = let p = err_from_is_err_and r h in p.1 ∙ ap Err p.2

-- no refusal
pub is_no_refusal : {X : Type 0} {P : Type 0} (x : X) (e : Refusal) → Ok x ≡ Err e → P
is_no_refusal x e t = absurd (cc t)

module _ {X : Type 0} (r : Result X Refusal) (why : Refusal) (is : r ≡ Err why) where
  pub no_value : (P : X → Type 0) → IfOk r P
  no_value P = subst (λ x. IfOk x P) (sym is) tt

  pub of_why : (P : Refusal → Type 0) → P why → IfErr r P
  of_why P p = subst (λ x. IfErr x P) (sym is) p

  -- the reader failed
  pub read_kind : why ≡ ReadFailed → IfErr r MayStop
  read_kind e = of_why MayStop (inr (inl e))

  pub read_of_it : {P : Type 0} → why ≡ ReadFailed → r ≢ Err ReadFailed → P
  read_of_it e other = absurd (other (is ∙ ap Err e))

  pub never_wrote : {P : Type 0} → why ≡ ReadFailed → r ≡ Err WriteFailed → P
  never_wrote e t = absurd (cc (is, e, t))

  -- the writer failed, or memory was refused
  pub write_kind : (has_failed : Bool) → MayStopWriting why has_failed → IfErr r MayStop
  write_kind has_failed cause = of_why MayStop (⊎_elim (λ memory. inl memory.0) (λ wrote. inr (inr wrote.0)) cause)

  pub never_read : {P : Type 0} (has_failed : Bool) → MayStopWriting why has_failed → r ≡ Err ReadFailed → P
  never_read has_failed cause t = absurd (⊎_elim (λ memory. cc (is, memory.0, t)) (λ wrote. cc (is, wrote.0, t)) cause)

  pub wrote_of_it : (has_failed : Bool) → MayStopWriting why has_failed → r ≡ Err WriteFailed → has_failed ≡ true
  wrote_of_it has_failed cause t = ⊎_elim (λ memory. absurd (cc (is, memory.0, t))) (λ wrote. wrote.1) cause

  pub wrote_well : (has_failed : Bool) → MayStopWriting why has_failed → r ≢ Err WriteFailed → has_failed ≡ false
  wrote_well has_failed cause other = ⊎_elim (λ memory. memory.1) (λ wrote. absurd (other (is ∙ ap Err wrote.0))) cause
