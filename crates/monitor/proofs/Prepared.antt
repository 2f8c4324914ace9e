-- the facts about the parts once a change is prepared
use Rattle.std.proofs.Common.{◌≡◌, ◌⊎◌, ℕ, ◌<◌, ◌≤◌, Option, Some, None, IfSome, IsSomeAnd, List, [], ◌∷◌, ◌++◌, length, nat_eq, take, slice_get, refl, sym, ap, ◌∙◌, subst, arith}
use Rattle.std.specs.declared.boxed.Box.{Box}
use Rattle.std.specs.Global.{Global}
use Rattle.std.specs.List.{filter, position}
use Rattle.std.specs.Map.{keys_of}
use Rattle.std.proofs.lemmas.List.{length_push}
use Rattle.indexmap.specs.Layout.{set_value_at}
use Rattle.kinds.specs.declared.model_kind.ModelKind.{ModelKind}
use Rattle.events.specs.declared.event.Event.{Event}
use Rattle.events.specs.Events.{key_of}
use Rattle.events.specs.ProcessRule.{IsHistory}
use Rattle.history.specs.WellFormed.{HistoryView, IsWellFormed, IsHistoryOf, with_next}
use Rattle.linspec.specs.declared.verdict.KeyStatus.{KeyStatus}
use Rattle.linspec.specs.declared.verdict.KeyStatus.TheVariants.{Alive}
use Rattle.linspec.specs.declared.verdict.Verdict.{Verdict}
use Rattle.linspec.specs.KeyHistory.{KeyHistory, IsStatusOf, with_pushed, without_events, judged_by, begins_below}
use Rattle.checkpoints.specs.KeyLineView.{KeyLineView, at_rest}
use Rattle.checkpoints.specs.KeyLineView.{with_next as line_with_next}
use Rattle.linspec.specs.JudgedHistory.{JudgedHistory, kind_of, budget_of, with_event, keys_in_order, history_of_key}
use Rattle.monitor.specs.Settings.{SettingsView, room_for, with_setting}
use Rattle.monitor.specs.Rows.{LinesView, nows, cut_rows, change_at, JoinsRows, AreCutAt}
use Rattle.monitor.specs.Judged.{IsJudged, AreRowsWith, AreRowsJudgedBy, IsRebuilt}
use Rattle.monitor.specs.SoundMonitor.{judged_of, judged_by_parts, IsSoundMonitor}
use Rattle.monitor.specs.declared.settings.Setting.{Setting}
use Rattle.monitor.specs.declared.monitor.Change.{Change}
use Rattle.monitor.specs.declared.monitor.Change.TheVariants.{Fault, Append, Begin, Rewind, Set}
use Rattle.monitor.specs.declared.monitor.Monitor.TheInside.{Inside}
use Rattle.monitor.proofs.Changes.{JudgingLaw, HasNow, line_of, keys_of_lines, found, fault_judged, next_judged, first_judged, kept_first, cut_judged, set_judged}
use Rattle.monitor.proofs.Changing.{changed_is}
use Rattle.monitor.proofs.Joins.{now_read}
use Rattle.monitor.proofs.KeyedEvents.{events-none}
use Rattle.monitor.proofs.KeyPlaces.{position_none}
use Rattle.monitor.proofs.Places.{row_within}
use Rattle.monitor.proofs.Statuses.{JoinsWith, BadKeysDecide}

-- the next event of a key is one of a history by itself, and a key that was not alive stays as it was
abbrev pub NextEventLaw : Type 0
NextEventLaw = (h : JudgedHistory) (event : Event) (key : ℕ) → IsHistoryOf h.concurrency h.events → IsWellFormed h.concurrency h.events event → key_of event ≡ Some key
    → IsHistory ((history_of_key h key).events ++ (length h.events, event) ∷ [])

abbrev pub SettledLaw : Type 0
SettledLaw = (h : KeyHistory) (index : ℕ) (event : Event) (s t : KeyStatus) → IsHistory (h.events ++ (index, event) ∷ []) → IsStatusOf h s → IsStatusOf (with_pushed index event h) t
    → (s ≡ Alive) ⊎ (t ≡ s)

-- the clause about the element at a place
pub if_at : {X : Type 0} (o : Option X) (x : X) (P : X → Type 0) → o ≡ Some x → IfSome o P → P x
if_at o x P at p = subst (λ q. IfSome q P) at p

-- the event that is prepared to come next
pub next_is : (history : HistoryView) {history' : HistoryView} (e : Event) → history' ≡ with_next (history.events ++ e ∷ []) history → history'.next ≡ Some (history'.events ++ e ∷ [])
next_is history e is = ap (λ (h : HistoryView). h.next) is ∙ sym (ap (λ (h : HistoryView). Some (h.events ++ e ∷ [])) is)

-- the parts, where this is prepared
abbrev ready_with : Inside → HistoryView → LinesView → Change → Verdict → Inside
ready_with a history lines change v = record a { history = history; lines = lines; prepared = Some (record { change = change; verdict = v }) }

-- a history grows by an event
grows : {X : Type 0} (xs : List X) (x : X) → length xs ≤ length (xs ++ x ∷ [])
grows xs x = omega (arith, length_push xs x)

-- the judged history, by other lines that have the same
same_lines : {h : JudgedHistory} {rows rows' : List (ℕ × KeyHistory)} {v : Verdict} → IsJudged h rows v → rows' ≡ rows → IsJudged h rows' v
same_lines {h = h} {v = v} judged same = subst (λ (l : List (ℕ × KeyHistory)). IsJudged h l v) (sym same) judged

-- an event that speaks of no operation
pub fault_ready : JudgingLaw → {a : Inside} {history : HistoryView} → IsSoundMonitor a → (e : Event) → history ≡ with_next (a.history.events ++ e ∷ []) a.history
    → IsWellFormed a.history.concurrency a.history.events e → key_of e ≡ None → IsSoundMonitor (ready_with a history a.lines Fault a.verdict)
fault_ready law {a = a} sound e is well none =
    subst (λ (h : HistoryView). IsSoundMonitor (ready_with a h a.lines Fault a.verdict)) (sym is)
    (record {
      now = sound.now;
      ready = record { rows = nows a.lines.rows; taken = refl; long = grows a.history.events e; brings = refl; judged = fault_judged law sound.now e well none };
    })

-- an event of a key, as its line gets it
pub record IsToldOf (h : JudgedHistory) (e : Event) (k index : ℕ) (event : Event) : Type 0 where
  pub well : IsWellFormed h.concurrency h.events e
  pub key : key_of e ≡ Some k
  pub index_is : index ≡ length h.events
  pub event_is : event ≡ e

-- one of a key that has a line
module _ (next_law : NextEventLaw) (lines : List (ℕ × KeyLineView)) {h : JudgedHistory} {v : Verdict} (judged : IsJudged h (nows lines) v) {e : Event} {k index : ℕ} {event : Event}
    (told : IsToldOf h e k index event) (place : ℕ) (at : position (nat_eq k) (keys_in_order h.events) ≡ Some place) where
  abbrev its_line : HasNow lines place k (history_of_key h k)
  its_line = line_of lines judged k place at

  may_follow : IsHistory ((history_of_key h k).events ++ (length h.events, e) ∷ [])
  may_follow = next_law h e k judged.history told.well told.key

  pub may_push : IsSomeAnd (slice_get lines place) (λ row. IsHistory (row.1.now.events ++ (index, event) ∷ []))
  may_push =
      subst (λ (o : Option (ℕ × KeyLineView)). IsSomeAnd o (λ row. IsHistory (row.1.now.events ++ (index, event) ∷ []))) (sym its_line.at)
      (subst IsHistory (λ i. (sym its_line.is i).events ++ (sym told.index_is i, sym told.event_is i) ∷ []) may_follow)

  -- the history of the line then
  pushed_is : with_pushed index event its_line.line.now ≡ with_pushed (length h.events) e (history_of_key h k)
  pushed_is = λ i. with_pushed (told.index_is i) (told.event_is i) (its_line.is i)

  pub push_judged : JudgingLaw → BadKeysDecide → SettledLaw → (status : KeyStatus) {w : Verdict}
      → IfSome (slice_get lines place) (λ row. IsStatusOf (with_pushed index event row.1.now) status) → JoinsWith v k status w
      → IsJudged (with_event e h) (set_value_at (nows lines) place (with_pushed (length h.events) e (history_of_key h k))) w
  push_judged law decide settled status {w = w} is with_it =
      let now : IsStatusOf (with_pushed (length h.events) e (history_of_key h k)) status =
      subst (λ (x : KeyHistory). IsStatusOf x status) pushed_is
      (if_at (slice_get lines place) (k, its_line.line) (λ row. IsStatusOf (with_pushed index event row.1.now) status) its_line.at is) in
      next_judged law judged decide e k place status w told.well told.key at now
      (λ s was. settled (history_of_key h k) (length h.events) e s status may_follow was now) with_it

  pub push_brings : (lines' : LinesView) → lines'.rows ≡ change_at place (λ line. line_with_next (with_pushed index event line.now) 1 line) lines → nows lines'.rows ≡ nows lines
      → AreRowsWith lines' (Some place) (set_value_at (nows lines) place (with_pushed (length h.events) e (history_of_key h k)))
  push_brings lines' next are = (
    (k, line_with_next (with_pushed index event its_line.line.now) 1 its_line.line),
    with_pushed index event its_line.line.now,
    ap (λ l. slice_get l place) next ∙ changed_is (λ line. line_with_next (with_pushed index event line.now) 1 line) lines place k its_line.line its_line.at,
    refl,
    (λ i. set_value_at (sym are i) place (sym pushed_is i)),
  )

pub next_ready : JudgingLaw → BadKeysDecide → NextEventLaw → SettledLaw → {a : Inside} {history : HistoryView} {lines : LinesView} → IsSoundMonitor a → {e : Event} {k index : ℕ} {event : Event}
    → IsToldOf (judged_by_parts a) e k index event → history ≡ with_next (a.history.events ++ e ∷ []) a.history → {place : ℕ} → position (nat_eq k) (keys_in_order a.history.events) ≡ Some place
    → (status : KeyStatus) {w : Verdict} → IfSome (slice_get a.lines.rows place) (λ row. IsStatusOf (with_pushed index event row.1.now) status)
    → lines.rows ≡ change_at place (λ line. line_with_next (with_pushed index event line.now) 1 line) a.lines.rows → nows lines.rows ≡ nows a.lines.rows → JoinsWith a.verdict k status w
    → IsSoundMonitor (ready_with a history lines (Append place) w)
next_ready law decide next_law settled {a = a} {lines = lines} sound {e = e} {k = k} told is {place = place} at status {w = w} is_status next kept with_it =
    subst (λ (x : HistoryView). IsSoundMonitor (ready_with a x lines (Append place) w)) (sym is)
    (record {
      now = same_lines sound.now kept;
      ready = record {
        rows = set_value_at (nows a.lines.rows) place (with_pushed (length a.history.events) e (history_of_key (judged_by_parts a) k));
        taken = refl;
        long = grows a.history.events e;
        brings = push_brings next_law a.lines.rows sound.now told place at lines next kept;
        judged = push_judged next_law a.lines.rows sound.now told place at law decide settled status is_status with_it;
      };
    })

-- the first event of a key
module _ {h : JudgedHistory} {rows : List (ℕ × KeyHistory)} {v : Verdict} (judged : IsJudged h rows v) {e : Event} {k index : ℕ} {event : Event} (told : IsToldOf h e k index event)
    (at : position (nat_eq k) (keys_in_order h.events) ≡ None) where
  pub may_begin : NextEventLaw → IsHistory ((index, event) ∷ [])
  may_begin next_law =
      subst IsHistory (λ i. events-none k 0 h.events (position_none (keys_in_order h.events) k at) i ++ (sym told.index_is i, sym told.event_is i) ∷ [])
      (next_law h e k judged.history told.well told.key)

  pub begin_judged : JudgingLaw → {kind : ModelKind} {budget : ℕ} {line : KeyLineView} (status : KeyStatus) {w : Verdict} → kind ≡ kind_of h k → budget ≡ budget_of h k
      → line ≡ at_rest (with_pushed index event (without_events kind budget)) 1 → IsStatusOf line.now status → JoinsWith v k status w
      → IsJudged (with_event e h) (rows ++ (k, line.now) ∷ []) w
  begin_judged law {line = line} status {w = w} kind_is budget_is is is_status with_it =
      let same : line.now ≡ with_pushed (length h.events) e (without_events (kind_of h k) (budget_of h k)) =
      ap (λ (l : KeyLineView). l.now) is ∙ (λ i. with_pushed (told.index_is i) (told.event_is i) (without_events (kind_is i) (budget_is i))) in
      subst (λ (x : KeyHistory). IsJudged (with_event e h) (rows ++ (k, x) ∷ []) w) (sym same)
      (first_judged law judged e k status w told.well told.key at (subst (λ (x : KeyHistory). IsStatusOf x status) same is_status) with_it)

pub first_ready : JudgingLaw → {a : Inside} {history : HistoryView} {lines : LinesView} → IsSoundMonitor a → {e : Event} {k index : ℕ} {event : Event}
    → IsToldOf (judged_by_parts a) e k index event → history ≡ with_next (a.history.events ++ e ∷ []) a.history → position (nat_eq k) (keys_in_order a.history.events) ≡ None
    → {kind : ModelKind} {budget : ℕ} {line : Box KeyLineView Global} (status : KeyStatus) {w : Verdict} → kind ≡ kind_of a.settings.opening k → budget ≡ budget_of a.settings.opening k
    → lines.rows ≡ a.lines.rows → 0 < lines.room → line.value ≡ at_rest (with_pushed index event (without_events kind budget)) 1 → IsStatusOf line.value.now status → JoinsWith a.verdict k status w
    → IsSoundMonitor (ready_with a history lines (Begin k line) w)
first_ready law {a = a} {lines = lines} sound {e = e} {k = k} told is at {line = line} status {w = w} kind_is budget_is kept room line_is is_status with_it =
    subst (λ (x : HistoryView). IsSoundMonitor (ready_with a x lines (Begin k line) w)) (sym is)
    (record {
      now = now;
      ready = record {
        rows = nows lines.rows ++ (k, line.value.now) ∷ [];
        taken = refl;
        long = grows a.history.events e;
        brings = (room, ap (position (nat_eq k)) (ap keys_of kept ∙ keys_of_lines a.lines.rows sound.now) ∙ at, refl);
        judged = begin_judged now told at law status kind_is budget_is line_is is_status with_it;
      };
    })
  where
    now : IsJudged (judged_by_parts a) (nows lines.rows) a.verdict
    now = same_lines sound.now (ap nows kept)

-- a cut
pub rewind_ready : JudgingLaw → {a : Inside} {history : HistoryView} {lines : LinesView} {judged_again : ℕ} → IsSoundMonitor a → (n kept : ℕ) {w : Verdict} → n ≤ length a.history.events
    → history ≡ with_next (take n a.history.events) a.history → kept ≡ length (filter (λ row. begins_below n row.1) (nows a.lines.rows))
    → JoinsRows (cut_rows n (filter (λ row. begins_below n row.1) (nows a.lines.rows))) w → AreCutAt n lines.rows → nows lines.rows ≡ nows a.lines.rows
    → IsSoundMonitor (record (ready_with a history lines (Rewind n kept) w) { judged_again = judged_again })
rewind_ready law {a = a} {lines = lines} {judged_again = judged_again} sound n kept {w = w} within is kept_is joined cut same =
    subst (λ (x : HistoryView). IsSoundMonitor (record (ready_with a x lines (Rewind n kept) w) { judged_again = judged_again })) (sym is)
    (record {
      now = now;
      ready = record {
        rows = cut_rows n (take kept (nows lines.rows));
        taken = refl;
        long = (within, refl);
        brings = (cut, kept_first law now n kept count, refl);
        judged = cut_judged law now n kept count (subst (λ (l : List (ℕ × KeyHistory)). JoinsRows (cut_rows n (filter (λ row. begins_below n row.1) l)) w) (sym same) joined);
      };
    })
  where
    now : IsJudged (judged_by_parts a) (nows lines.rows) a.verdict
    now = same_lines sound.now same

    count : kept ≡ length (filter (λ row. begins_below n row.1) (nows lines.rows))
    count = kept_is ∙ ap (λ (l : List (ℕ × KeyHistory)). length (filter (λ row. begins_below n row.1) l)) (sym same)

-- the judged history, once a key has another kind or another budget
pub rebuilt_judged : JudgingLaw → {h : JudgedHistory} (lines : LinesView) {lines' : LinesView} {v : Verdict} → IsJudged h (nows lines.rows) v → (k : ℕ) (setting : Setting)
    {kind : ModelKind} {budget : ℕ} {place : Option ℕ} {w : Verdict} → place ≡ position (nat_eq k) (keys_of lines.rows)
    → kind ≡ kind_of (with_setting k setting h) k → budget ≡ budget_of (with_setting k setting h) k → (rebuilt : IsRebuilt kind budget place lines lines' w)
    → IsJudged (with_setting k setting h) rebuilt.rows w
rebuilt_judged law lines judged k setting {place = place} at kind_is budget_is rebuilt =
    set_judged law judged k setting (found lines.rows judged k at)
    (subst (λ (t : ModelKind × ℕ). AreRowsJudgedBy t.0 t.1 place (nows lines.rows) rebuilt.rows) (λ i. (kind_is i, budget_is i)) rebuilt.judged) rebuilt.joined

pub set_ready : JudgingLaw → {a : Inside} {settings : SettingsView} {lines : LinesView} {judged_again : ℕ} → IsSoundMonitor a → (k : ℕ) (setting : Setting)
    {kind : ModelKind} {budget : ℕ} {place : Option ℕ} {w : Verdict} → settings.opening ≡ a.settings.opening → 0 < room_for setting settings → place ≡ position (nat_eq k) (keys_of a.lines.rows)
    → kind ≡ kind_of (with_setting k setting a.settings.opening) k → budget ≡ budget_of (with_setting k setting a.settings.opening) k
    → IsRebuilt kind budget place a.lines lines w → nows lines.rows ≡ nows a.lines.rows
    → IsSoundMonitor (record (ready_with a a.history lines (Set k setting place) w) { settings = settings; judged_again = judged_again })
set_ready law {a = a} {lines = lines} sound k setting {w = w} same room at kind_is budget_is rebuilt kept = record {
  now = subst (λ (o : JudgedHistory). IsJudged (judged_of a.history o) (nows lines.rows) a.verdict) (sym same) (same_lines sound.now kept);
  ready = record {
    rows = rebuilt.rows;
    taken = room;
    long = tt;
    brings = rebuilt.brings;
    judged = subst (λ (o : JudgedHistory). IsJudged (with_setting k setting (judged_of a.history o)) rebuilt.rows w) (sym same) (rebuilt_judged law a.lines sound.now k setting at kind_is budget_is rebuilt);
  };
}

-- the line at a place has another kind and budget prepared, and how it then stands joins to the verdict
pub rebuilt_at : {kind : ModelKind} {budget place : ℕ} {lines lines' : LinesView} (status : KeyStatus) {v : Verdict} → place < length lines.rows
    → IfSome (slice_get lines.rows place) (λ row. IsStatusOf (judged_by kind budget row.1.now) status)
    → lines'.rows ≡ change_at place (λ line. line_with_next (judged_by kind budget line.now) (length line.now.events) line) lines.rows → nows lines'.rows ≡ nows lines.rows
    → ((next : KeyHistory) → IsStatusOf next status → JoinsRows (set_value_at (nows lines'.rows) place next) v) → IsRebuilt kind budget (Some place) lines lines' v
rebuilt_at {kind = kind} {budget = budget} {place = place} {lines = lines} status {v = v} within is next same joins =
    let row = row_within lines.rows place within in
    let judged : KeyHistory = judged_by kind budget row.0.1.now in
    record {
      rows = set_value_at (nows lines.rows) place judged;
      judged = ((row.0.0, row.0.1.now), now_read lines.rows place row.0.0 row.0.1 row.1, refl);
      brings = (
        (row.0.0, line_with_next judged (length row.0.1.now.events) row.0.1),
        judged,
        ap (λ l. slice_get l place) next ∙ changed_is (λ line. line_with_next (judged_by kind budget line.now) (length line.now.events) line) lines.rows place row.0.0 row.0.1 row.1,
        refl,
        ap (λ l. set_value_at l place judged) (sym same),
      );
      joined = subst (λ (l : List (ℕ × KeyHistory)). JoinsRows (set_value_at l place judged) v) same
          (joins judged (if_at (slice_get lines.rows place) row.0 (λ r. IsStatusOf (judged_by kind budget r.1.now) status) row.1 is));
    }
