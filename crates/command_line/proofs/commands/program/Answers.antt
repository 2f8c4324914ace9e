use Rattle.std.proofs.Common.{refl}
use Rattle.std.proofs.lemmas.Result.{IfOk-weaker}
use Rattle.command_line.proofs.Adding.{more_command}
use Rattle.command_line.proofs.commands.program.Goals as goal

pub returns : goal.returns
returns c =
    let a1 = more_command _ _ _ _ _ c.in_ok-subcommand.ensures refl c.in_ok-bare.ensures c.in_ok-script.ensures in
    let a2 = more_command _ _ _ _ _ c.in_ok-subcommand-2.ensures refl a1 c.in_ok-check.ensures in
    let a3 = more_command _ _ _ _ _ c.in_ok-subcommand-3.ensures refl a2 c.in_ok-confirm.ensures in
    IfOk-weaker c.subcommand-4.result _ _ (λ r h. more_command _ _ _ _ _ h refl a3 c.in_ok-run.ensures) c.subcommand-4.ensures
