use Rattle.std.proofs.Common.{ℕ, Option, subst}
use Rattle.monitor.specs.Judged.{AreRowsWith}
use Rattle.monitor.proofs.Carried.{line_carried}
use Rattle.monitor.proofs.line_changes.commit_line.Goals as goal

pub returns-in-Some : goal.returns-in-Some
returns-in-Some c = λ rows is.
    line_carried c.args.lines.now c.commit.new.self c.in-Some.place c.commit.ensures rows (subst (λ (o : Option ℕ). AreRowsWith c.args.lines.now o rows) c.in-Some.is is)
