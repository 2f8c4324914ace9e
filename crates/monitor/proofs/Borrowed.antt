-- a history lends the lines of its keys their events
use Rattle.std.proofs.Common.{◌≡◌, ℕ, zero, suc, ◌+◌, Option, Some, None, IfSome, option_map, List, [], ◌∷◌, slice_get, sym, ap, ◌∙◌, subst, arith}
use Rattle.std.proofs.lemmas.List.Elements.{All-filter}
use Rattle.std.proofs.lemmas.Option.{slice_get-map}
use Rattle.events.specs.declared.event.Event.{Event}
use Rattle.events.specs.Events.{indexed_from, is_event_of, events_of_key}
use Rattle.linspec.specs.declared.verdict.Verdict.{Verdict}
use Rattle.linspec.specs.KeyHistory.{KeyHistory}
use Rattle.checkpoints.specs.Borrowed.{AreBorrowedBy}
use Rattle.linspec.specs.JudgedHistory.{JudgedHistory, keys_in_order, history_of_key}
use Rattle.monitor.specs.Rows.{AreRowsBorrowedBy}
use Rattle.monitor.specs.Judged.{rows_of, IsJudged}

-- events that stand in all events from n on
stand_from : (all : List Event) (n : ℕ) (events : List Event) → ((i : ℕ) → slice_get all (n + i) ≡ slice_get events i) → AreBorrowedBy all (indexed_from n events)
stand_from all n [] same k d lt = absurd (omega arith)
stand_from all n (e ∷ events) same zero d lt = ap (slice_get all) (let here : n ≡ n + 0 = omega arith in here) ∙ same 0
stand_from all n (e ∷ events) same (suc k) d lt =
    stand_from all (n + 1) events (λ i. ap (slice_get all) (let next : n + 1 + i ≡ n + suc i = omega arith in next) ∙ same (suc i)) k d (omega arith)

events_borrowed : (key : ℕ) (events : List Event) → AreBorrowedBy events (events_of_key key (indexed_from 0 events))
events_borrowed key events =
    All-filter (λ (x : ℕ × Event). is_event_of key x.1) (λ (x : ℕ × Event). slice_get events x.0 ≡ Some x.1) (indexed_from 0 events)
    (stand_from events 0 events (λ i. ap (slice_get events) (let same : 0 + i ≡ i = omega arith in same)))

rows_borrowed : (h : JudgedHistory) → AreRowsBorrowedBy h.events (rows_of h)
rows_borrowed h place =
    subst (λ (o : Option (ℕ × KeyHistory)). IfSome o (λ row. AreBorrowedBy h.events row.1.events)) (sym (slice_get-map {B = ℕ × KeyHistory} (λ (key : ℕ). (key, history_of_key h key)) (keys_in_order h.events) place))
    (by_key (slice_get (keys_in_order h.events) place))
  where
    by_key : (o : Option ℕ) → IfSome (option_map {U = ℕ × KeyHistory} (λ (key : ℕ). (key, history_of_key h key)) o) (λ row. AreBorrowedBy h.events row.1.events)
    by_key None = tt
    by_key (Some key) = events_borrowed key h.events

-- the rows borrow their events from the judged history
pub judged_borrowed : {h : JudgedHistory} {rows : List (ℕ × KeyHistory)} {v : Verdict} → IsJudged h rows v → (borrowed : List Event) → borrowed ≡ h.events → AreRowsBorrowedBy borrowed rows
judged_borrowed {h = h} {rows = rows} judged borrowed same =
    subst (λ (l : List Event). AreRowsBorrowedBy l rows) (sym same) (subst (AreRowsBorrowedBy h.events) (sym judged.rows_are) (rows_borrowed h))
