-- the facts about the parts once a change is carried out
use Rattle.std.proofs.Common.{◌≡◌, ℕ, Option, Some, None, IfSome, IsSome, List, [], ◌∷◌, ◌++◌, slice_get, sym, ap, ◌∙◌, subst}
use Rattle.std.proofs.lemmas.Bool.{false≢true}
use Rattle.std.proofs.lemmas.List.{map-append}
use Rattle.indexmap.specs.Layout.{set_value_at}
use Rattle.events.specs.declared.event.Event.{Event}
use Rattle.history.specs.WellFormed.{HistoryView, with_events}
use Rattle.linspec.specs.declared.verdict.Verdict.{Verdict}
use Rattle.linspec.specs.KeyHistory.{KeyHistory}
use Rattle.checkpoints.specs.KeyLineView.{KeyLineView, at_rest, count_on}
use Rattle.linspec.specs.JudgedHistory.{JudgedHistory}
use Rattle.monitor.specs.Rows.{LinesView, nows}
use Rattle.monitor.specs.Judged.{IsJudged, AreRowsWith}
use Rattle.monitor.specs.SoundMonitor.{judged_of, judged_by_parts, with_events_of, brought_by, IsReady, IsSoundMonitor}
use Rattle.monitor.specs.declared.monitor.Prepared.{Prepared}
use Rattle.monitor.specs.declared.monitor.Change.{Change}
use Rattle.monitor.specs.declared.monitor.Monitor.TheInside.{Inside}
use Rattle.monitor.proofs.Places.{map_written}

-- the rows with one more, and with the prepared history of one line
pub nows_push : (rows : List (ℕ × KeyLineView)) (key : ℕ) (line : KeyLineView) → nows (rows ++ (key, line) ∷ []) ≡ nows rows ++ (key, line.now) ∷ []
nows_push rows key line = map-append (λ (row : ℕ × KeyLineView). (row.0, row.1.now)) rows ((key, line) ∷ [])

pub line_carried : (lines lines' : LinesView) (place : ℕ) → IfSome (slice_get lines.rows place) (λ row. IfSome row.1.next (λ next. lines'.rows ≡ set_value_at lines.rows place (at_rest next (count_on row.1.replayed row.1.prepared_replays))))
    → (rows : List (ℕ × KeyHistory)) → AreRowsWith lines (Some place) rows → nows lines'.rows ≡ rows
line_carried lines lines' place carried rows brings =
    ap nows
    (subst (λ (o : Option KeyHistory). IfSome o (λ next. lines'.rows ≡ set_value_at lines.rows place (at_rest next (count_on brings.0.1.replayed brings.0.1.prepared_replays)))) brings.3
    (subst (λ (o : Option (ℕ × KeyLineView)). IfSome o (λ row. IfSome row.1.next (λ next. lines'.rows ≡ set_value_at lines.rows place (at_rest next (count_on row.1.replayed row.1.prepared_replays))))) brings.2 carried))
    ∙ map_written (λ (l : KeyLineView). l.now) lines.rows place (at_rest brings.1 (count_on brings.0.1.replayed brings.0.1.prepared_replays))
    ∙ sym brings.4

-- the change that was prepared
pub prepared_ready : {a : Inside} → IsSoundMonitor a → {p : Prepared} → a.prepared ≡ Some p → {change : Change} → p.change ≡ change → IsReady a change p.verdict
prepared_ready {a = a} sound {p = p} is which =
    subst (λ (c : Change). IsReady a c p.verdict) which
    (subst (λ (o : Option Prepared). IfSome o (λ q. IsReady a q.change q.verdict)) is sound.ready)

-- all is sound where nothing is prepared, and the parts are what is judged
pub sound_at_rest : {b : Inside} {h : JudgedHistory} {rows : List (ℕ × KeyHistory)} {v : Verdict} → judged_by_parts b ≡ h → nows b.lines.rows ≡ rows → b.verdict ≡ v → b.prepared ≡ None
    → IsJudged h rows v → IsSoundMonitor b
sound_at_rest {b = b} same are verdict none judged = record {
  now = subst (λ (t : JudgedHistory × List (ℕ × KeyHistory) × Verdict). IsJudged t.0 t.1 t.2) (λ i. (sym same i, sym are i, sym verdict i)) judged;
  ready = subst (λ (o : Option Prepared). IfSome o (λ p. IsReady b p.change p.verdict)) (sym none) tt;
}

-- so it is after a change that the history has carried out
pub event_carried : {a b : Inside} {change : Change} {v : Verdict} (ready : IsReady a change v) → b.settings.opening ≡ a.settings.opening → IsSome a.history.next
    → brought_by (judged_by_parts a) a.history.next change ≡ with_events_of a.history.next (judged_by_parts a) → IfSome a.history.next (λ events. b.history ≡ with_events events a.history)
    → nows b.lines.rows ≡ ready.rows → b.verdict ≡ v → b.prepared ≡ None → IsSoundMonitor b
event_carried {a = a} {b = b} ready settings some brought carried are verdict none =
    sound_at_rest (ap (judged_of b.history) settings ∙ by_next a.history.next some carried ∙ sym brought) are verdict none ready.judged
  where
    by_next : (o : Option (List Event)) → IsSome o → IfSome o (λ events. b.history ≡ with_events events a.history) → judged_of b.history a.settings.opening ≡ with_events_of o (judged_by_parts a)
    by_next None some is = absurd (false≢true some)
    by_next (Some events) some is = ap (λ (h : HistoryView). judged_of h a.settings.opening) is
