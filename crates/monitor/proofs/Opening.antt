-- the parts of a monitor whose keys have the default kind and budget
use Rattle.std.proofs.Common.{◌≡◌, List, [], ◌∷◌, append-nil, append_assoc, ◌++◌, sym, ap, ◌∙◌}
use Rattle.events.specs.declared.event.Event.{Event}
use Rattle.linspec.specs.JudgedHistory.{JudgedHistory, with_event}
use Rattle.monitor.specs.Loading.{with_events}

-- events that came one after the other
pub events_in_turn : (events : List Event) (h : JudgedHistory) → with_events events h ≡ record h { events = h.events ++ events }
events_in_turn [] h = ap (λ (l : List Event). let x : JudgedHistory = record h { events = l } in x) (sym (append-nil h.events))
events_in_turn (e ∷ events) h =
    events_in_turn events (with_event e h)
    ∙ ap (λ (l : List Event). let x : JudgedHistory = record h { events = l } in x) (append_assoc h.events (e ∷ []) events)
