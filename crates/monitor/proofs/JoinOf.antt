-- the join of how the keys stand is the verdict
use Rattle.std.proofs.Common.{◌≡◌, ℕ, List, map, All, refl, subst}
use Rattle.kinds.specs.declared.model_kind.ModelKind.{ModelKind}
use Rattle.events.specs.declared.event.Event.{Event}
use Rattle.events.specs.Events.{Entry, entries_of, indexed_from}
use Rattle.history.specs.WellFormed.{IsHistoryOf}
use Rattle.linspec.specs.declared.verdict.KeyStatus.{KeyStatus}
use Rattle.linspec.specs.declared.verdict.Verdict.{Verdict}
use Rattle.linspec.specs.Verdicts.{IsJoin, IsRising, IsVerdict}
use Rattle.linspec.specs.KeyHistory.{IsStatusOf}
use Rattle.linspec.specs.JudgedHistory.{JudgedHistory, IsVerdictOn, kind_of, budget_of, entries_in, keys_in_order, history_of_key}
use Rattle.monitor.specs.Judged.{IsJudged, rows_of}
use Rattle.monitor.proofs.Changes.{JudgingLaw}
use Rattle.monitor.proofs.PrefixVerdicts.{has_join, statuses_of_rows}

pub verdict_joins : JudgingLaw
    → ((kinds : ℕ → ModelKind) (budgets : ℕ → ℕ) (entries : List Entry) (v w : Verdict) → IsRising entries → IsVerdict kinds budgets entries v → IsVerdict kinds budgets entries w → v ≡ w)
    → ((events : List Event) → IsRising (entries_of (indexed_from 0 events)))
    → (h : JudgedHistory) (statuses : List (ℕ × KeyStatus)) (v : Verdict) → IsHistoryOf h.concurrency h.events
    → map (λ (s : ℕ × KeyStatus). s.0) statuses ≡ keys_in_order h.events
    → All (λ (s : ℕ × KeyStatus). IsStatusOf (history_of_key h s.0) s.1) statuses → IsVerdictOn h v → IsJoin statuses v
verdict_joins judged one rise h statuses v may keys each is =
    let join = has_join statuses in
    let of = statuses_of_rows h statuses each keys in
    let by_join : IsJudged h (rows_of h) join.0 = judged h (rows_of h) join.0 may refl (statuses, of, join.1) in
    subst (IsJoin statuses) (one (kind_of h) (budget_of h) (entries_in h) join.0 v (rise h.events) by_join.is_verdict is) join.1
