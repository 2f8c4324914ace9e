-- The part of a history that a monitor shows
use Rattle.std.proofs.Common.{◌≡◌, ℕ, List, ap, ◌∙◌}
use Rattle.processes.specs.MoveRule.{current_of}
use Rattle.events.specs.declared.event.Event.{Event}
use Rattle.history.specs.WellFormed.{HistoryView, moves_of}
use Rattle.monitor.specs.Monitors.{MonitorView}

abbrev pub Shows : MonitorView → HistoryView → Type 0
Shows monitor history = (history.concurrency ≡ monitor.now.concurrency) × (history.events ≡ monitor.now.events)

pub current_by : (monitor : MonitorView) (history : HistoryView) (thread : ℕ) → Shows monitor history
    → current_of history.concurrency (moves_of history.events) thread ≡ current_of monitor.now.concurrency (moves_of monitor.now.events) thread
current_by monitor history thread shows =
    ap (λ (c : ℕ). current_of c (moves_of history.events) thread) shows.0
    ∙ ap (λ (events : List Event). current_of monitor.now.concurrency (moves_of events) thread) shows.1
