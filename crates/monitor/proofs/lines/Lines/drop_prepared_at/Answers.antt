use Rattle.std.proofs.Common.{ap}
use Rattle.monitor.specs.Rows.{LinesView}
use Rattle.monitor.proofs.Preparing.{dropped}
use Rattle.monitor.proofs.lines.Lines.drop_prepared_at.Goals as goal

pub returns-clause-rows : goal.returns-clause-rows
returns-clause-rows c = dropped c.args.self.now (ap (λ (v : LinesView). v.rows) c.self.view_is) c.args.place c.in-Some.ensures.value c.drop_prepared.new.self c.drop_prepared.ensures
