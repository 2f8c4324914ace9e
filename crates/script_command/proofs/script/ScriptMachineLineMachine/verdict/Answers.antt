use Rattle.std.proofs.Common.{Some, subst}
use Rattle.script_command.specs.Reply.{Script, Shows}
use Rattle.script_command.proofs.script.ScriptMachineLineMachine.verdict.Goals as goal

pub returns : goal.returns
returns g c = subst (λ (s : Script). Shows s (Some c.verdict-verdict.result)) c.self.view_is (c.verdict-verdict.ensures, c.if-self.false)
