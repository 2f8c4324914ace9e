-- how many events of a key a cut judges again
use Rattle.std.proofs.Common.{◌≡◌, ℕ, ◌<◌, ◌≤◌, true, false, nat_eq, nat_lt, Option, Some, None, IfSome, option_map, List, length, position, slice_get, refl, sym, ap, ◌∙◌, subst, arith}
use Rattle.std.proofs.lemmas.Bool.{le-ltb}
use Rattle.std.proofs.lemmas.List.{take_all, length-take-le}
use Rattle.events.specs.declared.event.Event.{Event}
use Rattle.events.specs.Events.{indexed_from, events_of_key}
use Rattle.linspec.specs.KeyHistory.{KeyHistory, events_below, begins_below, loses_at}
use Rattle.checkpoints.specs.KeyLineView.{KeyLineView, replays_at}
use Rattle.checkpoints.proofs.Counts.{few_replays, no_replay}
use Rattle.linspec.specs.JudgedHistory.{JudgedHistory, kind_of, budget_of, keys_in_order, history_of_key}
use Rattle.monitor.specs.Monitors.{MonitorView, loses_by, replays_by}
use Rattle.monitor.specs.SoundMonitor.{judged_by_parts, with_events_of, brought_by, brought, monitor_view, HasLength, IsSoundMonitor}
use Rattle.monitor.specs.declared.monitor.Prepared.{Prepared}
use Rattle.monitor.specs.declared.monitor.Change.{Change}
use Rattle.monitor.specs.declared.monitor.Change.TheVariants.{Fault, Append, Begin, Rewind, Set}
use Rattle.monitor.specs.declared.monitor.Monitor.TheInside.{Inside}
use Rattle.linspec.specs.declared.verdict.Verdict.{Verdict}
use Rattle.monitor.specs.Judged.{IsJudged}
use Rattle.monitor.specs.Rows.{nows, IsCutAt, AreCutAt}
use Rattle.monitor.proofs.Carried.{prepared_ready}
use Rattle.monitor.proofs.Changes.{HasNow, line_of}
use Rattle.monitor.proofs.Cutting.{none_replayed}
use Rattle.monitor.proofs.KeyedEvents.{events-none, events-take}
use Rattle.monitor.proofs.KeyPlaces.{position_none}
use Rattle.monitor.proofs.Preparing.{at_row}

-- the count of the line at a place
module _ (n : ℕ) (rows : List (ℕ × KeyLineView)) (place : ℕ) {key : ℕ} {line : KeyLineView} (at : slice_get rows place ≡ Some (key, line)) where
  pub due_counted : AreCutAt n rows → begins_below n line.now ≡ true → {due : ℕ} → due ≡ line.prepared_replays → IfSome (slice_get rows place) (λ row. due ≡ replays_at n row.1.now)
  due_counted cut begins {due = due} is =
      let here : IsCutAt n line = subst (λ (o : Option (ℕ × KeyLineView)). IfSome o (λ row. IsCutAt n row.1)) at (cut place) in
      at_row rows place key line (λ row. due ≡ replays_at n row.1.now) at (is ∙ (here begins).1)

  pub none_counted : begins_below n line.now ≡ false → IfSome (slice_get rows place) (λ row. 0 ≡ replays_at n row.1.now)
  none_counted none = at_row rows place key line (λ row. 0 ≡ replays_at n row.1.now) at (none_replayed n line.now none)

-- its count is that of its key
pub replays_seen : (rows : List (ℕ × KeyLineView)) {h : JudgedHistory} {v : Verdict} → IsJudged h (nows rows) v → (k place n : ℕ) {r : ℕ} → position (nat_eq k) (keys_in_order h.events) ≡ Some place
    → IfSome (slice_get rows place) (λ row. r ≡ replays_at n row.1.now) → r ≡ replays_at n (history_of_key h k)
replays_seen rows {h = h} judged k place n {r = r} at is =
    let its : HasNow rows place k (history_of_key h k) = line_of rows judged k place at in
    subst (λ (o : Option (ℕ × KeyLineView)). IfSome o (λ row. r ≡ replays_at n row.1.now)) its.at is ∙ ap (λ (x : KeyHistory). replays_at n x) its.is

-- a key without events, and one that loses none, is not judged again
pub no_events_again : (h : JudgedHistory) (k n : ℕ) → position (nat_eq k) (keys_in_order h.events) ≡ None → 0 ≡ replays_at n (history_of_key h k)
no_events_again h k n at =
    ap (λ (l : List (ℕ × Event)). let x : KeyHistory = record { kind = kind_of h k; budget = budget_of h k; events = l } in replays_at n x)
    (sym (events-none k 0 h.events (position_none (keys_in_order h.events) k at)))

none_again : (h : JudgedHistory) (k n : ℕ) → length h.events ≤ n → 0 ≡ replays_at n (history_of_key h k)
none_again h k n le =
    let events = events_of_key k (indexed_from 0 h.events) in
    let whole : events_below n events ≡ events = events-take k n h.events ∙ ap (λ (l : List Event). events_of_key k (indexed_from 0 l)) (take_all n h.events le) in
    let kept : loses_at n (history_of_key h k) ≡ false = ap (λ (l : List (ℕ × Event)). nat_lt (length l) (length events)) whole ∙ le-ltb (length events) (length events) (omega arith) in
    sym (no_replay n (history_of_key h k) kept)

-- a change other than a rewind brings no fewer events
with_length : (h : JudgedHistory) (o : Option (List Event)) → IfSome o (λ events. length h.events ≤ length events) → length h.events ≤ length (with_events_of o h).events
with_length h None is = omega arith
with_length h (Some events) is = is

no_shorter : (a : Inside) (change : Change) → HasLength a.history change → ((n kept : ℕ) → change ≡ Rewind n kept → ⊥)
    → length a.history.events ≤ length (brought_by (judged_by_parts a) a.history.next change).events
no_shorter a Fault long none = with_length (judged_by_parts a) a.history.next long
no_shorter a (Append place) long none = with_length (judged_by_parts a) a.history.next long
no_shorter a (Begin key line) long none = with_length (judged_by_parts a) a.history.next long
no_shorter a (Rewind n kept) long none = absurd (none n kept refl)
no_shorter a (Set key setting place) long none = omega arith

-- the prepared change, as a caller sees it
module _ {a : Inside} (sound : IsSoundMonitor a) {p : Prepared} (is : a.prepared ≡ Some p) (key : ℕ) {r : ℕ} where
  pub rewind_counted : {n kept : ℕ} → p.change ≡ Rewind n kept → r ≡ replays_at n (history_of_key (judged_by_parts a) key) → r ≡ replays_by (judged_by_parts a) (brought a p) key
  rewind_counted {n = n} {kept = kept} which e =
      let h = judged_by_parts a in
      let long = (prepared_ready sound is which).long in
      subst (λ (c : Change). r ≡ replays_by h (brought_by h a.history.next c) key) (sym which)
      (subst (λ (o : Option (List Event)). r ≡ replays_by h (with_events_of o h) key) (sym long.1)
      (subst (λ (m : ℕ). r ≡ replays_at m (history_of_key h key)) (sym (length-take-le n a.history.events long.0)) e))

  pub other_counted : ((n kept : ℕ) → p.change ≡ Rewind n kept → ⊥) → r ≡ 0 → r ≡ replays_by (judged_by_parts a) (brought a p) key
  other_counted none e = e ∙ none_again (judged_by_parts a) key (length (brought a p).events) (no_shorter a p.change (prepared_ready sound is refl).long none)

  module _ {view : MonitorView} (seen : monitor_view a ≡ view) (counted : r ≡ replays_by (judged_by_parts a) (brought a p) key) where
    pub counted_seen : IfSome view.next (λ next. r ≡ replays_by view.now next key)
    counted_seen =
        subst (λ (s : MonitorView). IfSome s.next (λ next. r ≡ replays_by s.now next key)) seen
        (subst (λ (o : Option Prepared). IfSome (option_map (brought a) o) (λ next. r ≡ replays_by (judged_by_parts a) next key)) (sym is) counted)

    pub none_seen : IfSome view.next (λ next. loses_by view.now next key ≡ false → r ≡ 0)
    none_seen =
        subst (λ (s : MonitorView). IfSome s.next (λ next. loses_by s.now next key ≡ false → r ≡ 0)) seen
        (subst (λ (o : Option Prepared). IfSome (option_map (brought a) o) (λ next. loses_by (judged_by_parts a) next key ≡ false → r ≡ 0)) (sym is)
        (λ whole. counted ∙ no_replay (length (brought a p).events) (history_of_key (judged_by_parts a) key) whole))

    pub few_seen : r < 64
    few_seen = omega (arith, counted, few_replays (length (brought a p).events) (history_of_key (judged_by_parts a) key))
