use Rattle.std.proofs.Common.{rules, ◌≡◌, refl, codes}
use Rattle.std.proofs.lemmas.Result.{IfOk-weaker}
use Rattle.clap.specs.Words.{rule_of}
use Rattle.command_line.specs.Commands.{option_rule}
use Rattle.command_line.proofs.Adding.{more_arg}
use Rattle.command_line.proofs.commands.with_object.Goals as goal

pub returns : goal.returns
returns c =
    let concurrency : rule_of c.a_number.result ≡ option_rule (codes "concurrency") (codes "2") = search rules in
    let model : rule_of c.a_name.result ≡ option_rule (codes "model") (codes "register") = search rules in
    let first = more_arg _ _ _ _ _ c.in_ok-arg.ensures c.a_number.ensures.global refl concurrency in
    IfOk-weaker c.arg-2.result _ _ (λ r h. more_arg _ _ _ _ _ h c.a_name.ensures.global first model) c.arg-2.ensures
