-- the joined status of the keys is the verdict
use Rattle.std.proofs.Common.{◌≡◌, ◌≢◌, ℕ, Some, List, [], ◌∷◌, ◌++◌, length, sym, ap, ◌∙◌, subst}
use Rattle.std.specs.List.{Contains, filter_map}
use Rattle.kinds.specs.declared.model_kind.ModelKind.{ModelKind}
use Rattle.events.specs.declared.event.Event.{Event}
use Rattle.events.specs.Events.{Entry, key_of, marks, of_key, entries_of, indexed_from, events_of_key}
use Rattle.events.specs.ProcessRule.{IsHistory}
use Rattle.history.specs.WellFormed.{IsWellFormed, IsHistoryOf}
use Rattle.history.proofs.Kept.{history-push}
use Rattle.linspec.specs.declared.verdict.KeyStatus.{KeyStatus}
use Rattle.linspec.specs.declared.verdict.Verdict.{Verdict}
use Rattle.linspec.specs.MarkRule.{IsKeyed, AreWellFormed}
use Rattle.linspec.specs.Orders.{Pairwise}
use Rattle.linspec.specs.Verdicts.{IsKeyStatus, IsVerdict, IsRising, AreStatuses, IsJoin}
use Rattle.linspec.proofs.Lists.{Contains-nil, Contains-head}
use Rattle.std.proofs.lemmas.List.Elements.{Contains-append_right}
use Rattle.linspec.proofs.Filters.{to_map, from_map}
use Rattle.linspec.specs.KeyHistory.{KeyHistory, IsStatusOf}
use Rattle.linspec.specs.JudgedHistory.{JudgedHistory, kind_of, budget_of, entries_in, keys_in_order, history_of_key}
use Rattle.monitor.specs.Rows.{AreStatusesOf, JoinsRows}
use Rattle.monitor.specs.Judged.{rows_of, IsJudged}
use Rattle.monitor.proofs.EachOnce.{to_each_once, each_once-apart}
use Rattle.monitor.proofs.KeyPlaces.{keys_of-rows_by}
use Rattle.monitor.proofs.KeyedEvents.{of_its_key, events-push, entry_keys}
use Rattle.monitor.proofs.Statuses.{status_row, row_status, status_keys, keys_apart}

-- the laws of the layers below that give a verdict
pub record Laws : Type 0 where
  pub rule : (c : ℕ) (events : List Event) → IsHistoryOf c events → IsHistory (indexed_from 0 events)
  pub entries : (key : ℕ) (events : List (ℕ × Event)) → IsHistory events → entries_of (events_of_key key events) ≡ of_key key (entries_of events)
  pub keyed : (events : List (ℕ × Event)) → IsHistory events → IsKeyed (entries_of events)
  pub well : (events : List (ℕ × Event)) → IsHistory events → AreWellFormed (marks (entries_of events))
  pub rising : (events : List (ℕ × Event)) → IsHistory events → IsRising (entries_of events)
  pub join : (kinds : ℕ → ModelKind) (budgets : ℕ → ℕ) (entries : List Entry) (statuses : List (ℕ × KeyStatus)) (v : Verdict) →
      IsKeyed entries → AreWellFormed (marks entries) → IsRising entries → AreStatuses kinds budgets entries statuses → IsJoin statuses v → IsVerdict kinds budgets entries v

-- a row of the keys has its key's history
row_history : (h : JudgedHistory) (k : ℕ) (x : KeyHistory) → Contains (rows_of h) (k, x) → history_of_key h k ≡ x
row_history h k x has =
    let from = from_map (λ j. (j, history_of_key h j)) (keys_in_order h.events) (k, x) has in
    ap (history_of_key h) (sym (ap (λ (p : ℕ × KeyHistory). p.0) from.2)) ∙ ap (λ (p : ℕ × KeyHistory). p.1) from.2

-- the statuses of the rows are those of the keys
pub statuses_of_keys : Laws → (h : JudgedHistory) (statuses : List (ℕ × KeyStatus)) → IsHistoryOf h.concurrency h.events → AreStatusesOf (rows_of h) statuses
    → AreStatuses (kind_of h) (budget_of h) (entries_in h) statuses
statuses_of_keys laws h statuses may are = record {
  each = λ k s has.
      let row = status_row (rows_of h) statuses k s are has in
      subst (λ (l : List Entry). IsKeyStatus (kind_of h k) (budget_of h k) l s) (laws.entries k (indexed_from 0 h.events) (laws.rule h.concurrency h.events may))
      (subst (λ (x : KeyHistory). IsStatusOf x s) (sym (row_history h k row.0 row.1)) row.2);
  once = keys_apart statuses
      (subst (Pairwise (λ i j. i ≢ j)) (sym (status_keys (rows_of h) statuses are ∙ keys_of-rows_by (history_of_key h) (keys_in_order h.events))) (each_once-apart (filter_map key_of h.events)));
  all = λ e has.
      row_status (rows_of h) statuses e.key (history_of_key h e.key) are
      (to_map (λ j. (j, history_of_key h j)) (keys_in_order h.events) e.key (to_each_once (filter_map key_of h.events) e.key (entry_keys (λ _. 0) 0 h.events e has)));
}

pub judged : Laws → (h : JudgedHistory) (rows : List (ℕ × KeyHistory)) (v : Verdict) → IsHistoryOf h.concurrency h.events → rows ≡ rows_of h → JoinsRows rows v → IsJudged h rows v
judged laws h rows v may are joined =
    let whole : IsHistory (indexed_from 0 h.events) = laws.rule h.concurrency h.events may in
    record {
      history = may;
      rows_are = are;
      joined = joined;
      is_verdict = laws.join (kind_of h) (budget_of h) (entries_in h) joined.0 v (laws.keyed _ whole) (laws.well _ whole) (laws.rising _ whole)
          (statuses_of_keys laws h joined.0 may (subst (λ (l : List (ℕ × KeyHistory)). AreStatusesOf l joined.0) are joined.1)) joined.2;
    }

-- a history of no events
pub IsHistoryOf-none : (c : ℕ) → IsHistoryOf c []
IsHistoryOf-none c before after e cut = absurd (Contains-nil e (subst (λ (l : List Event). Contains l e) (sym cut) (Contains-append_right before (e ∷ after) e (Contains-head e after))))

-- an event that comes next is the next one of its key, so one that may come next may be
pub follows : ((c : ℕ) (events : List Event) → IsHistoryOf c events → IsHistory (indexed_from 0 events))
    → ((key : ℕ) (events : List (ℕ × Event)) → IsHistory events → IsHistory (events_of_key key events))
    → (c k : ℕ) (events : List Event) (e : Event) → IsHistoryOf c (events ++ e ∷ []) → key_of e ≡ Some k → IsHistory (events_of_key k (indexed_from 0 events) ++ (length events, e) ∷ [])
follows rule of_key c k events e may is =
    subst IsHistory (events-push k events e (of_its_key k e is)) (of_key k (indexed_from 0 (events ++ e ∷ [])) (rule c (events ++ e ∷ []) may))

pub next_event : ((c : ℕ) (events : List Event) → IsHistoryOf c events → IsHistory (indexed_from 0 events))
    → ((key : ℕ) (events : List (ℕ × Event)) → IsHistory events → IsHistory (events_of_key key events))
    → (h : JudgedHistory) (e : Event) (k : ℕ) → IsHistoryOf h.concurrency h.events → IsWellFormed h.concurrency h.events e → key_of e ≡ Some k
    → IsHistory ((history_of_key h k).events ++ (length h.events, e) ∷ [])
next_event rule of_key h e k may well is = follows rule of_key h.concurrency k h.events e (history-push h.concurrency h.events e may well) is
