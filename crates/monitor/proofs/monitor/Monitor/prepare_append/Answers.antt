use Rattle.std.proofs.Common.{◌≡◌, Some, None, nat_eq, ◌∙◌, subst}
use Rattle.std.specs.List.{position}
use Rattle.linspec.specs.JudgedHistory.{keys_in_order}
use Rattle.monitor.specs.Monitors.{MonitorView}
use Rattle.monitor.proofs.Changes.{found}
use Rattle.monitor.proofs.monitor.Monitor.prepare_append.Goals as goal

pub prepare_next-requires-clause-place : goal.prepare_next-requires-clause-place
prepare_next-requires-clause-place c =
    subst (λ (s : MonitorView). position (nat_eq c.in-Some.key) (keys_in_order s.now.events) ≡ Some c.in-Some-find.place) c.self.view_is
    (found c.self.inside.lines.rows c.self.invariant.now c.in-Some.key c.find.ensures ∙ c.in-Some-find.is)

pub prepare_first-requires-clause-new : goal.prepare_first-requires-clause-new
prepare_first-requires-clause-new c =
    subst (λ (s : MonitorView). position (nat_eq c.in-Some.key) (keys_in_order s.now.events) ≡ None) c.self.view_is
    (found c.self.inside.lines.rows c.self.invariant.now c.in-Some.key c.find.ensures ∙ c.in-None.is)
