use Rattle.std.proofs.Common.{sym, subst}
use Rattle.machine.specs.declared.command.Command.{Command}
use Rattle.harness.specs.CoreView.{MayCarryOut}
use Rattle.harness.proofs.Stepping.{no_alarm}
use Rattle.harness.proofs.core_object.Core.step.Goals as goal

pub returns-in-Append-clause-no_alarm : goal.returns-in-Append-clause-no_alarm
returns-in-Append-clause-no_alarm c =
    no_alarm c.no_false_alarm.ensures.linearizable c.args.self.now.machine c.append.new.self c.args.command c.append.result
    (subst (λ (x : Command). MayCarryOut c.args.self.now.machine x c.append.result c.append.new.self) (sym c.in-Append.is) c.append.ensures)

pub returns-in_default-clause-no_alarm : goal.returns-in_default-clause-no_alarm
returns-in_default-clause-no_alarm c =
    no_alarm c.no_false_alarm.ensures.linearizable c.args.self.now.machine c.prepare_and_commit.new.self c.args.command c.prepare_and_commit.result c.prepare_and_commit.ensures
