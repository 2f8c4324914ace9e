use Rattle.std.proofs.Common.{◌≡◌, Some, length, slice_get, ap, ◌∙◌, subst}
use Rattle.linspec.specs.KeyHistory.{KeyHistory, IsStatusOf}
use Rattle.linspec.specs.JudgedHistory.{keys_in_order, history_of_key}
use Rattle.monitor.specs.Monitors.{MonitorView}
use Rattle.monitor.proofs.Changes.{place_seen}
use Rattle.monitor.proofs.monitor.Monitor.key_at.Goals as goal

pub returns-clause-key : goal.returns-clause-key
returns-clause-key c =
    subst (λ (s : MonitorView). slice_get (keys_in_order s.now.events) c.args.i ≡ Some c.key_and_line-key.result.0) c.self.view_is
    (place_seen c.self.inside.lines.rows c.self.invariant.now c.args.i c.key_and_line-key.result.0 c.key_and_line-key.result.1.now c.key_and_line-key.ensures).0

pub returns-clause-events : goal.returns-clause-events
returns-clause-events c =
    subst (λ (s : MonitorView). c.len.result ≡ length (history_of_key s.now c.key_and_line-key.result.0).events) c.self.view_is
    (c.len.ensures ∙ ap (λ (x : KeyHistory). length x.events) (place_seen c.self.inside.lines.rows c.self.invariant.now c.args.i c.key_and_line-key.result.0 c.key_and_line-key.result.1.now c.key_and_line-key.ensures).1)

pub returns-clause-status : goal.returns-clause-status
returns-clause-status c =
    subst (λ (s : MonitorView). IsStatusOf (history_of_key s.now c.key_and_line-key.result.0) c.status.result) c.self.view_is
    (subst (λ (x : KeyHistory). IsStatusOf x c.status.result) (place_seen c.self.inside.lines.rows c.self.invariant.now c.args.i c.key_and_line-key.result.0 c.key_and_line-key.result.1.now c.key_and_line-key.ensures).1 c.status.ensures)
