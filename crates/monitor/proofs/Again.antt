-- how many events were judged again
use Rattle.std.proofs.Common.{◌≡◌, ℕ, ◌+◌, ◌-◌, ◌*◌, ◌^◌, ◌≤◌, true, false, Bool, cond, nat_eq, Option, Some, None, List, [], ◌∷◌, length, position, refl, sym, ap, ◌∙◌, arith}
use Rattle.std.proofs.lemmas.List.Sums.{sum_by-cons}
use Rattle.events.specs.declared.event.Event.{Event}
use Rattle.linspec.specs.KeyHistory.{KeyHistory, loses_at}
use Rattle.linspec.specs.JudgedHistory.{JudgedHistory, keys_in_order, history_of_key}
use Rattle.checkpoints.specs.KeyLineView.{KeyLineView, replays_at, count_on}
use Rattle.checkpoints.proofs.Counts.{few_replays, no_replay, count_on_none}
use Rattle.linspec.specs.declared.verdict.Verdict.{Verdict}
use Rattle.monitor.specs.Judged.{IsJudged}
use Rattle.monitor.specs.Monitors.{MonitorView, with_next, with_again}
use Rattle.monitor.specs.Settings.{with_setting}
use Rattle.monitor.specs.SoundMonitor.{judged_of, judged_by_parts, monitor_view}
use Rattle.monitor.specs.Rows.{nows, replays_in, losing, events_of_row, events_at}
use Rattle.monitor.specs.declared.settings.Setting.{Setting}
use Rattle.monitor.specs.declared.monitor.Monitor.TheInside.{Inside}
use Rattle.monitor.proofs.Changes.{HasNow, line_of, found}
use Rattle.monitor.proofs.Joins.{now_read}
use Rattle.monitor.proofs.KeyPlaces.{position_none}
use Rattle.monitor.proofs.KeyedEvents.{events-none}
use Rattle.std.specs.Map.{keys_of}

-- fewer than 64 of each key that loses events, and none of others
row_few : (n : ℕ) (row : ℕ × KeyHistory) (rows : List (ℕ × KeyHistory)) → replays_in n rows ≤ 63 * length (losing n rows) → (b : Bool) → loses_at n row.1 ≡ b
    → replays_at n row.1 + replays_in n rows ≤ 63 * length (cond b (row ∷ losing n rows) (losing n rows))
row_few n row rows few true is = (let f = few_replays n row.1 in omega (arith, f, few))
row_few n row rows few false is = (let z = no_replay n row.1 is in omega (arith, z, few))

pub few_in : (n : ℕ) (rows : List (ℕ × KeyHistory)) → replays_in n rows ≤ 63 * length (losing n rows)
few_in n [] = omega arith
few_in n (row ∷ rows) =
    let e = sum_by-cons (λ (r : ℕ × KeyHistory). replays_at n r.1) row rows in
    let m = row_few n row rows (few_in n rows) (loses_at n row.1) refl in
    omega (arith, e, m)

-- all events of a key
pub events_seen : (rows : List (ℕ × KeyLineView)) {h : JudgedHistory} {v : Verdict} → IsJudged h (nows rows) v → (k : ℕ) (place : Option ℕ) → place ≡ position (nat_eq k) (keys_of rows)
    → events_at place (nows rows) ≡ length (history_of_key h k).events
events_seen rows {h = h} judged k None is = sym (ap (λ (l : List (ℕ × Event)). length l) (events-none k 0 h.events (position_none (keys_in_order h.events) k (found rows judged k is))))
events_seen rows {h = h} judged k (Some place) is =
    let its : HasNow rows place k (history_of_key h k) = line_of rows judged k place (found rows judged k is) in
    ap events_of_row (now_read rows place k its.line its.at) ∙ ap (λ (x : KeyHistory). length x.events) its.is

-- of no line
pub none_rebuilt : (place : Option ℕ) (rows : List (ℕ × KeyHistory)) (count : ℕ) → ((p : ℕ) → place ≡ Some p → ⊥) → count ≤ 2 ^ 64 - 1 → count ≡ count_on count (events_at place rows)
none_rebuilt None rows count none fits = sym (count_on_none count fits)
none_rebuilt (Some p) rows count none fits = absurd (none p refl)

-- the prepared change, as a caller sees it, once a setting of a key is due
pub setting_seen : (a : Inside) {view : MonitorView} {opening : JudgedHistory} {judged_again : ℕ} (k : ℕ) (setting : Setting) → monitor_view a ≡ view → opening ≡ a.settings.opening
    → judged_again ≡ count_on a.judged_again (length (history_of_key (judged_by_parts a) k).events)
    → ◌≡◌ {A = MonitorView} (record { now = judged_of a.history opening; next = Some (with_setting k setting (judged_of a.history opening)); judged_again = judged_again })
    (with_next (with_setting k setting view.now) (with_again (length (history_of_key view.now k).events) view))
setting_seen a {opening = opening} {judged_again = judged_again} k setting seen same counted =
    let by_parts : ◌≡◌ {A = MonitorView} (record { now = judged_of a.history opening; next = Some (with_setting k setting (judged_of a.history opening)); judged_again = judged_again })
    (with_next (with_setting k setting (judged_by_parts a)) (with_again (length (history_of_key (judged_by_parts a) k).events) (monitor_view a))) =
    λ i. record { now = judged_of a.history (same i); next = Some (with_setting k setting (judged_of a.history (same i))); judged_again = counted i } in
    by_parts ∙ ap (λ (v : MonitorView). with_next (with_setting k setting v.now) (with_again (length (history_of_key v.now k).events) v)) seen
