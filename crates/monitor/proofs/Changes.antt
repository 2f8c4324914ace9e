-- the judged history after a change
use Rattle.std.proofs.Common.{◌≡◌, ◌⊎◌, ℕ, zero, suc, nat_eq, Option, Some, None, List, [], ◌∷◌, ◌++◌, length, take, slice_get, refl, sym, ap, ◌∙◌, subst}
use Rattle.std.specs.List.{filter, filter_map, position}
use Rattle.std.specs.Map.{keys_of}
use Rattle.std.proofs.lemmas.Map.Made.{keys_of-map_values}
use Rattle.std.proofs.lemmas.Option.{none-some, same_Some}
use Rattle.indexmap.specs.Layout.{set_value_at}
use Rattle.events.specs.declared.event.Event.{Event}
use Rattle.events.specs.Events.{key_of}
use Rattle.history.specs.WellFormed.{IsWellFormed, IsHistoryOf}
use Rattle.linspec.specs.declared.verdict.KeyStatus.{KeyStatus}
use Rattle.linspec.specs.declared.verdict.KeyStatus.TheVariants.{Alive}
use Rattle.linspec.specs.declared.verdict.Verdict.{Verdict}
use Rattle.linspec.specs.KeyHistory.{KeyHistory, IsStatusOf, with_pushed, without_events, judged_by, begins_below}
use Rattle.checkpoints.specs.KeyLineView.{KeyLineView}
use Rattle.linspec.specs.JudgedHistory.{JudgedHistory, kind_of, budget_of, with_event, rewound, keys_in_order, history_of_key}
use Rattle.monitor.specs.declared.settings.Setting.{Setting}
use Rattle.monitor.specs.Settings.{with_setting}
use Rattle.monitor.specs.Rows.{nows, cut_rows, JoinsRows}
use Rattle.monitor.specs.Judged.{rows_of, IsJudged, AreRowsJudgedBy}
use Rattle.monitor.proofs.EachOnce.{each_once-apart}
use Rattle.monitor.proofs.Joins.{now_read}
use Rattle.monitor.proofs.KeyPlaces.{rows_by, row_at, key_back, keys_of-rows_by, set_value_at-at, rows_around, rows_without, rows_with, position_none}
use Rattle.monitor.proofs.RowsAfter.{others_keep, rows_fault, rows_push, rows_first, rows_first_kept, rows_cut}
use Rattle.monitor.proofs.Statuses.{JoinsWith, BadKeysDecide, joins_push, joins_set}
use Rattle.history.proofs.Kept.{history-push}
use Rattle.history.proofs.Prefixes.{history-take}

abbrev pub JudgingLaw : Type 0
JudgingLaw = (h : JudgedHistory) (rows : List (ℕ × KeyHistory)) (v : Verdict) → IsHistoryOf h.concurrency h.events → rows ≡ rows_of h → JoinsRows rows v → IsJudged h rows v

-- the line at a place, and what it has
pub record HasNow (rows : List (ℕ × KeyLineView)) (place k : ℕ) (now : KeyHistory) : Type 0 where
  pub line : KeyLineView
  pub at : slice_get rows place ≡ Some (k, line)
  pub is : line.now ≡ now

now_back : (rows : List (ℕ × KeyLineView)) (place k : ℕ) (now : KeyHistory) → slice_get (nows rows) place ≡ Some (k, now) → HasNow rows place k now
now_back [] place k now at = absurd (none-some (k, now) at)
now_back (r ∷ rows) zero k now at =
    let e : ◌≡◌ {A = ℕ × KeyHistory} (r.0, r.1.now) (k, now) = same_Some _ _ at in
    record { line = r.1; at = ap (λ (p : ℕ × KeyHistory). Some (p.0, r.1)) e; is = ap (λ (p : ℕ × KeyHistory). p.1) e }
now_back (r ∷ rows) (suc place) k now at = (let rest = now_back rows place k now at in record { line = rest.line; at = rest.at; is = rest.is })

module _ (lines : List (ℕ × KeyLineView)) {h : JudgedHistory} {v : Verdict} (judged : IsJudged h (nows lines) v) where
  -- the keys of the lines
  pub keys_of_lines : keys_of lines ≡ keys_in_order h.events
  keys_of_lines = sym (keys_of-map_values (λ (l : KeyLineView). l.now) lines) ∙ ap keys_of judged.rows_are ∙ keys_of-rows_by (history_of_key h) (keys_in_order h.events)

  -- a key that is found among them
  pub found : (k : ℕ) {place : Option ℕ} → place ≡ position (nat_eq k) (keys_of lines) → position (nat_eq k) (keys_in_order h.events) ≡ place
  found k at = sym (at ∙ ap (position (nat_eq k)) keys_of_lines)

  -- the line of a key that stands at a place, and the key at a place
  pub line_of : (k place : ℕ) → position (nat_eq k) (keys_in_order h.events) ≡ Some place → HasNow lines place k (history_of_key h k)
  line_of k place at = now_back lines place k (history_of_key h k) (ap (λ l. slice_get l place) judged.rows_are ∙ row_at (history_of_key h) (keys_in_order h.events) k place at)

  pub place_seen : (i key : ℕ) (line : KeyLineView) → slice_get lines i ≡ Some (key, line) → (slice_get (keys_in_order h.events) i ≡ Some key) × (line.now ≡ history_of_key h key)
  place_seen i key line at = key_back (history_of_key h) (keys_in_order h.events) i key line.now (ap (λ l. slice_get l i) (sym judged.rows_are) ∙ now_read lines i key line at)

-- the rows where something is set for a key
set_rows : (h : JudgedHistory) (k : ℕ) (setting : Setting) (rows : List (ℕ × KeyHistory)) (place : Option ℕ) (new : List (ℕ × KeyHistory)) → rows ≡ rows_of h
    → position (nat_eq k) (keys_in_order h.events) ≡ place → AreRowsJudgedBy (kind_of (with_setting k setting h) k) (budget_of (with_setting k setting h) k) place rows new
    → new ≡ rows_of (with_setting k setting h)
set_rows h k setting rows None new are at is =
    is ∙ are ∙ sym (rows_without (history_of_key h) (history_of_key (with_setting k setting h)) k (others_keep h k setting) (keys_in_order h.events) (position_none (keys_in_order h.events) k at))
set_rows h k setting rows (Some i) new are at is =
    let after = with_setting k setting h in
    let row : is.0 ≡ (k, history_of_key h k) = same_Some _ _ (sym is.1 ∙ ap (λ l. slice_get l i) are ∙ row_at (history_of_key h) (keys_in_order h.events) k i at) in
    is.2
    ∙ (λ j. set_value_at (are j) i (judged_by (kind_of after k) (budget_of after k) (row j).1))
    ∙ sym (rows_with (history_of_key h) (history_of_key after) k (others_keep h k setting) (keys_in_order h.events) i (each_once-apart (filter_map key_of h.events)) at)

module _ (law : JudgingLaw) {h : JudgedHistory} {rows : List (ℕ × KeyHistory)} {v : Verdict} (judged : IsJudged h rows v) where
  -- an event more, that speaks of no operation
  pub fault_judged : (e : Event) → IsWellFormed h.concurrency h.events e → key_of e ≡ None → IsJudged (with_event e h) rows v
  fault_judged e well none = law (with_event e h) rows v (history-push h.concurrency h.events e judged.history well) (judged.rows_are ∙ sym (rows_fault h e none)) judged.joined

  -- one of a key that has events
  joins_set_at : BadKeysDecide → (k place : ℕ) (next : KeyHistory) (status : KeyStatus) (w : Verdict)
      → position (nat_eq k) (keys_in_order h.events) ≡ Some place → IsStatusOf next status → ((s : KeyStatus) → IsStatusOf (history_of_key h k) s → (s ≡ Alive) ⊎ (status ≡ s))
      → JoinsWith v k status w → JoinsRows (set_value_at (rows_of h) place next) w
  joins_set_at decide k place next status w at is settled with_it =
      let around = rows_around (history_of_key h) (history_of_key h) k (λ j ne. refl) (keys_in_order h.events) place (each_once-apart (filter_map key_of h.events)) at in
      let before = rows_by (history_of_key h) around.0 in
      let after = rows_by (history_of_key h) around.1 in
      subst (λ (l : List (ℕ × KeyHistory)). JoinsRows l w)
      (sym (set_value_at-at before after k (history_of_key h k) next)
      ∙ (λ i. set_value_at (sym around.2 i) (around.4 i) next))
      (joins_set decide before after k (history_of_key h k) next status v w
      (subst (λ (l : List (ℕ × KeyHistory)). JoinsRows l v) (judged.rows_are ∙ around.2) judged.joined) is settled with_it)

  pub next_judged : BadKeysDecide → (e : Event) (k place : ℕ) (status : KeyStatus) (w : Verdict)
      → IsWellFormed h.concurrency h.events e → key_of e ≡ Some k → position (nat_eq k) (keys_in_order h.events) ≡ Some place
      → IsStatusOf (with_pushed (length h.events) e (history_of_key h k)) status → ((s : KeyStatus) → IsStatusOf (history_of_key h k) s → (s ≡ Alive) ⊎ (status ≡ s))
      → JoinsWith v k status w → IsJudged (with_event e h) (set_value_at rows place (with_pushed (length h.events) e (history_of_key h k))) w
  next_judged decide e k place status w well key at is settled with_it =
      let pushed = with_pushed (length h.events) e (history_of_key h k) in
      let rows_are : set_value_at rows place pushed ≡ set_value_at (rows_of h) place pushed = ap (λ l. set_value_at l place pushed) judged.rows_are in
      law (with_event e h) (set_value_at rows place pushed) w (history-push h.concurrency h.events e judged.history well)
      (rows_are ∙ sym (rows_push h e k place key at))
      (subst (λ (l : List (ℕ × KeyHistory)). JoinsRows l w) (sym rows_are) (joins_set_at decide k place pushed status w at is settled with_it))

  -- the first one of a key
  pub first_judged : (e : Event) (k : ℕ) (status : KeyStatus) (w : Verdict)
      → IsWellFormed h.concurrency h.events e → key_of e ≡ Some k → position (nat_eq k) (keys_in_order h.events) ≡ None
      → IsStatusOf (with_pushed (length h.events) e (without_events (kind_of h k) (budget_of h k))) status → JoinsWith v k status w
      → IsJudged (with_event e h) (rows ++ (k, with_pushed (length h.events) e (without_events (kind_of h k) (budget_of h k))) ∷ []) w
  first_judged e k status w well key at is with_it =
      let pushed = with_pushed (length h.events) e (without_events (kind_of h k) (budget_of h k)) in
      law (with_event e h) (rows ++ (k, pushed) ∷ []) w (history-push h.concurrency h.events e judged.history well)
      (ap (λ l. l ++ (k, pushed) ∷ []) judged.rows_are ∙ sym (rows_first h e k key at))
      (joins_push rows k pushed status v w judged.joined is with_it)

  -- the first n events alone
  module _ (n kept : ℕ) (count : kept ≡ length (filter (λ row. begins_below n row.1) rows)) where
    pub kept_first : filter (λ row. begins_below n row.1) rows ≡ take kept rows
    kept_first =
        ap (filter (λ row. begins_below n row.1)) judged.rows_are
        ∙ rows_first_kept h n kept (count ∙ ap (λ (l : List (ℕ × KeyHistory)). length (filter (λ row. begins_below n row.1) l)) judged.rows_are)
        ∙ ap (take kept) (sym judged.rows_are)

    pub cut_judged : {w : Verdict} → JoinsRows (cut_rows n (filter (λ row. begins_below n row.1) rows)) w → IsJudged (rewound n h) (cut_rows n (take kept rows)) w
    cut_judged {w = w} joined =
        law (rewound n h) (cut_rows n (take kept rows)) w (history-take h.concurrency n h.events judged.history)
        (ap (cut_rows n) (sym kept_first ∙ ap (filter (λ row. begins_below n row.1)) judged.rows_are) ∙ sym (rows_cut h n))
        (subst (λ (l : List (ℕ × KeyHistory)). JoinsRows (cut_rows n l) w) kept_first joined)

  -- another kind, or another budget, of a key
  pub set_judged : (k : ℕ) (setting : Setting) {place : Option ℕ} {new : List (ℕ × KeyHistory)} {w : Verdict} → position (nat_eq k) (keys_in_order h.events) ≡ place
      → AreRowsJudgedBy (kind_of (with_setting k setting h) k) (budget_of (with_setting k setting h) k) place rows new → JoinsRows new w → IsJudged (with_setting k setting h) new w
  set_judged k setting {place = place} {new = new} {w = w} at is joined = law (with_setting k setting h) new w judged.history (set_rows h k setting rows place new judged.rows_are at is) joined
