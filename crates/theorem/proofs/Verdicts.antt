-- the meaning of a verdict for a history
use Rattle.std.proofs.Common.{◌≡◌, ℕ, Bool, true, false, List, [], ◌∷◌, ◌++◌, refl, ap, subst, arith}
use Rattle.std.specs.Prelude.{IsTrue}
use Rattle.std.proofs.lemmas.List.{append-nil}
use Rattle.events.specs.Events.{Entry, marks}
use Rattle.history.specs.WellFormed.{IsHistoryOf}
use Rattle.linspec.specs.Orders.{IsLinearizable, product}
use Rattle.linspec.specs.Verdicts.{set_aside}
use Rattle.linspec.specs.JudgedHistory.{JudgedHistory, IsVerdictOn, kind_of, budget_of, entries_in}
use Rattle.linspec.specs.declared.verdict.Verdict.{Verdict}
use Rattle.linspec.specs.declared.verdict.Verdict.TheVariants.{Legal, Illegal, Unknown}
use Rattle.linspec.proofs.OneAnswer.{one_verdict}
use Rattle.linspec.proofs.Places.{rising_places}
use Rattle.machine.proofs.Pushes.{keyed, well_formed}
use Rattle.machine.proofs.Verdicts.{never_illegal}
use Rattle.report.specs.Report.{IsReport}
use Rattle.report.specs.VerdictLine.{verdict_line}
use Rattle.check_command.specs.ExitStatus.{status_of}
use Rattle.theorem.specs.Theorem.{Means, IsRight}
use Rattle.theorem.specs.Histories.{EndsWithLine}

-- if no key is over budget, none is set aside
none_aside : (blown : ℕ → Bool) → ((k : ℕ) → blown k ≡ false) → (entries : List Entry) → set_aside blown entries ≡ entries
none_aside blown none [] = refl
none_aside blown none (e ∷ entries) = rw (none e.key) (ap (λ l. e ∷ l) (none_aside blown none entries))

not_true : (b : Bool) → (IsTrue b → ⊥) → b ≡ false
not_true true never = absurd (never refl)
not_true false never = refl

pub means : (h : JudgedHistory) → IsHistoryOf h.concurrency h.events → (v : Verdict) → IsVerdictOn h v → Means h v
means h is Legal v =
    let none : (k : ℕ) → v.0 k ≡ false = λ k. not_true (v.0 k) (λ t. v.2.1 k ((v.1 k).0 t)) in
    subst (λ l. IsLinearizable (product (kind_of h)) (marks l)) (none_aside v.0 none (entries_in h)) (v.2.0 (set_aside v.0 (entries_in h)) ([], append-nil (set_aside v.0 (entries_in h))))
means h is (Illegal key index) v = λ lin. never_illegal (kind_of h) (budget_of h) (entries_in h) (keyed h.concurrency h.events is) (well_formed h.concurrency h.events is) lin key index v
means h is (Unknown key index) v = v.2.1

pub right : (h : JudgedHistory) → IsHistoryOf h.concurrency h.events → (v : Verdict) → IsVerdictOn h v → IsRight h v
right h is v said = (said, means h is v said)

-- the verdict of a report is the right one, since a history has one
pub last_line : (h : JudgedHistory) (text : List ℕ) (v : Verdict) → IsReport h text → IsVerdictOn h v → EndsWithLine text v
last_line h text v report on =
    let same : report.verdict ≡ v = one_verdict (kind_of h) (budget_of h) (entries_in h) (rising_places h.events) report.verdict v report.judged on in
    (report.lines, subst (λ w. text ≡ report.lines ++ verdict_line w) same report.text_is)

-- the verdict of an exit status
pub legal_is : (v : Verdict) → 0 ≡ status_of v → v ≡ Legal
legal_is Legal e = refl
legal_is (Illegal key index) e = absurd (omega (arith, e))
legal_is (Unknown key index) e = absurd (omega (arith, e))

pub illegal_is : (h : JudgedHistory) (v : Verdict) → 1 ≡ status_of v → Means h v → ¬ Means h Legal
illegal_is h Legal e means = absurd (omega (arith, e))
illegal_is h (Illegal key index) e means = means
illegal_is h (Unknown key index) e means = absurd (omega (arith, e))
