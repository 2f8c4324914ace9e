use Rattle.std.proofs.Common.{sym, ap, ◌∙◌}
use Rattle.linspec.specs.JudgedHistory.{JudgedHistory, opening_of}
use Rattle.monitor.specs.Monitors.{at_rest}
use Rattle.monitor.proofs.Opening.{events_in_turn}
use Rattle.monitor.proofs.monitor.Monitor.load.Goals as goal

pub returns-clause-loaded : goal.returns-clause-loaded
returns-clause-loaded g c =
    let opened = opening_of c.args.history.concurrency c.args.kind c.args.budget in
    c.of_lines.ensures ∙ ap (λ (h : JudgedHistory). at_rest h 0) (sym (events_in_turn c.args.history.events opened))
