use Rattle.std.proofs.Common.{sym}
use Rattle.monitor.proofs.Replays.{due_counted, none_counted}
use Rattle.monitor.proofs.lines.Lines.replays_at.Goals as goal

pub returns-then-not-begins_below : goal.returns-then-not-begins_below
returns-then-not-begins_below c = none_counted c.args.n c.args.self.now.rows c.args.place c.key_and_line.ensures (sym c.if-not-begins_below.ensures)

pub returns : goal.returns
returns c = due_counted c.args.n c.args.self.now.rows c.args.place c.key_and_line.ensures c.requires.next (sym c.if-not-begins_below.ensures) c.prepared_replays.ensures
