-- the report of a run, and that a strict store's is never an illegal verdict
use Rattle.std.proofs.Common.{◌≡◌, ◌≢◌, ℕ, Bool, Option, List, IfOk, Result, Ok, Err, String, string_bytes, refl, sym, ◌∙◌, subst, inl, inr, ⊎_elim, arith}
use Rattle.std.specs.declared.alloc.AllocError.{AllocError}
use Rattle.std.specs.declared.alloc.Global.{Global}
use Rattle.edn.specs.declared.refusal.Refusal.{Refusal}
use Rattle.edn.specs.declared.refusal.Refusal.TheVariants.{NoMemory}
use Rattle.linspec.specs.declared.verdict.Verdict.{Verdict}
use Rattle.linspec.specs.declared.verdict.Verdict.TheVariants.{Legal, Illegal, Unknown}
use Rattle.linspec.specs.JudgedHistory.{JudgedHistory, IsVerdictOn}
use Rattle.machine.specs.Machine.{Setup}
use Rattle.clients.specs.Runs.{HasNoRun}
use Rattle.line_loop.specs.RefusalLine.{refusal_line}
use Rattle.check_command.specs.ExitStatus.{status_of}
use Rattle.check_command.specs.Checks.{IsPut, line_or_no_memory}
use Rattle.run_command.specs.RunText.{MaySay}

-- no verdict but an illegal one gives the status 1
pub not_one : (h : JudgedHistory) (v : Verdict) → IsVerdictOn h v → ((key index : ℕ) → ¬ IsVerdictOn h (Illegal key index)) → status_of v ≢ 1
not_one h Legal is never e = omega (arith, e)
not_one h (Illegal key index) is never e = never key index is
not_one h (Unknown key index) is never e = omega (arith, e)

module _ (before after : Option (List ℕ)) (has_failed is_flushed : Bool) (status : ℕ) where
  -- the status is the text's, or 3
  pub never_one : (text : List ℕ) (said : ℕ) → said ≢ 1 → IsPut text said before after has_failed is_flushed status → status ≢ 1
  never_one text said other put = λ one. ⊎_elim (λ a. other (sym a.3 ∙ one)) (λ b. absurd (omega (arith, b.5, one))) put

  -- the line of a refusal, or that of out of memory
  pub says_why : (setup : Setup) (why : Refusal) → HasNoRun setup why → (line : Result (String Global) AllocError) → IfOk line (λ text. string_bytes text ≡ refusal_line why)
      → IsPut (line_or_no_memory line) 3 before after has_failed is_flushed status
      → (text : List ℕ) × (said : ℕ) × MaySay setup text said × IsPut text said before after has_failed is_flushed status
  says_why setup why cause (Ok text) is put = (refusal_line why, 3, inr (why, cause, inl refl, refl), subst (λ l. IsPut l 3 before after has_failed is_flushed status) is put)
  says_why setup why cause (Err e) is put = (refusal_line NoMemory, 3, inr (why, cause, inr refl, refl), put)
