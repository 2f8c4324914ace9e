use Rattle.std.proofs.Common.{rules, ◌≡◌, codes}
use Rattle.std.proofs.lemmas.Result.{IfOk-weaker}
use Rattle.clap.specs.Words.{rule_of}
use Rattle.command_line.specs.Commands.{option_rule}
use Rattle.command_line.proofs.Adding.{more_arg}
use Rattle.command_line.proofs.commands.with_settings.Goals as goal

pub returns : goal.returns
returns c =
    let budget : rule_of c.a_number.result ≡ option_rule (codes "budget") (codes "4096") = search rules in
    IfOk-weaker c.arg.result _ _ (λ r h. more_arg _ _ _ _ _ h c.a_number.ensures.global c.in_ok-with_object.ensures budget) c.arg.ensures
