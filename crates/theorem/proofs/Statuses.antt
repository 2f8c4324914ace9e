-- the text and the exit status of a check
use Rattle.std.proofs.Common.{◌≡◌, ℕ, List, [], None, refl, sym, subst, inl, inr, arith}
use Rattle.events.specs.declared.event.Event.{Event}
use Rattle.linspec.specs.JudgedHistory.{JudgedHistory}
use Rattle.linspec.specs.declared.verdict.Verdict.{Verdict}
use Rattle.linspec.specs.declared.verdict.Verdict.TheVariants.{Legal}
use Rattle.machine.specs.Machine.{Setup}
use Rattle.check_command.specs.Reading.{IsRead}
use Rattle.check_command.specs.Recorded.{ComesTo, findings_text, findings_status}
use Rattle.check_command.specs.declared.recorded.Findings.{Findings}
use Rattle.check_command.specs.declared.recorded.Findings.TheVariants.{Judged, RefusedEvent, Refused}
use Rattle.theorem.specs.Theorem.{Means}
use Rattle.theorem.specs.Histories.{IsJudgedSo, IsShownSo, recorded}
use Rattle.theorem.specs.Bridges.{SaysOfCheck}
use Rattle.theorem.proofs.Verdicts.{legal_is, illegal_is}
use Rattle.theorem.proofs.Listed.{judged, refused}

pub says : (setup : Setup) (bytes : List ℕ) (found : Findings) → ComesTo setup bytes found → SaysOfCheck setup bytes (findings_text found) (findings_status found)
says setup bytes (Judged v report) comes = inl (v, judged setup bytes (Judged v report) v report.items comes (refl, refl), refl)
says setup bytes (RefusedEvent i why) comes = inr (inl (i, why, refused setup bytes i why comes, refl, refl))
says setup bytes (Refused why) comes = inr (inr (why, comes, refl, refl))

pub legal : (setup : Setup) (bytes : List ℕ) (found : Findings) → ComesTo setup bytes found → findings_status found ≡ 0 → IsShownSo setup.concurrency setup.kind setup.budget bytes
legal setup bytes (Judged v report) comes zero =
    let is : IsJudgedSo setup.concurrency setup.kind setup.budget bytes v report.items = judged setup bytes (Judged v report) v report.items comes (refl, refl) in
    (is.0, is.1, subst (λ (w : Verdict). Means (recorded setup.concurrency setup.kind setup.budget is.0) w) (legal_is v (sym zero)) is.2.1)
legal setup bytes (RefusedEvent i why) comes zero = absurd (omega (arith, zero))
legal setup bytes (Refused why) comes zero = absurd (omega (arith, zero))

pub illegal : (setup : Setup) (bytes : List ℕ) (found : Findings) → ComesTo setup bytes found → findings_status found ≡ 1
    → (events : List Event) × IsRead bytes setup.concurrency [] events None × ¬ Means (recorded setup.concurrency setup.kind setup.budget events) Legal
illegal setup bytes (Judged v report) comes one =
    let is : IsJudgedSo setup.concurrency setup.kind setup.budget bytes v report.items = judged setup bytes (Judged v report) v report.items comes (refl, refl) in
    let h : JudgedHistory = recorded setup.concurrency setup.kind setup.budget is.0 in
    (is.0, is.1, illegal_is h v (sym one) is.2.1)
illegal setup bytes (RefusedEvent i why) comes one = absurd (omega (arith, one))
illegal setup bytes (Refused why) comes one = absurd (omega (arith, one))
