use Rattle.std.proofs.Common.{rules, ◌≡◌, ◌∙◌, ap, codes}
use Rattle.std.proofs.lemmas.Result.{IfOk-weaker}
use Rattle.clap.specs.Words.{app_of, new_app, rule_of}
use Rattle.command_line.specs.Commands.{option_rule, with_settings}
use Rattle.command_line.proofs.Adding.{more_arg}
use Rattle.command_line.proofs.commands.run.Goals as goal

pub returns : goal.returns
returns c =
    let seed : rule_of c.a_number.result ≡ option_rule (codes "seed") (codes "0") = search rules in
    let ops : rule_of c.a_number-2.result ≡ option_rule (codes "ops") (codes "100") = search rules in
    let keys : rule_of c.a_number-3.result ≡ option_rule (codes "keys") (codes "1") = search rules in
    let replicas : rule_of c.a_number-4.result ≡ option_rule (codes "replicas") (codes "3") = search rules in
    let mode : rule_of c.a_name.result ≡ option_rule (codes "mode") (codes "strict") = search rules in
    let faults : rule_of c.a_name-2.result ≡ option_rule (codes "faults") (codes "off") = search rules in
    let bare : app_of c.described-bare.result ≡ new_app (codes "run") = search rules in
    let a1 = more_arg _ _ _ _ _ c.in_ok-arg.ensures c.a_number.ensures.global bare seed in
    let a2 = more_arg _ _ _ _ _ c.in_ok-arg-2.ensures c.a_number-2.ensures.global a1 ops in
    let a3 = more_arg _ _ _ _ _ c.in_ok-arg-3.ensures c.a_number-3.ensures.global a2 keys in
    let a4 = more_arg _ _ _ _ _ c.in_ok-arg-4.ensures c.a_number-4.ensures.global a3 replicas in
    let a5 = more_arg _ _ _ _ _ c.in_ok-arg-5.ensures c.a_name.ensures.global a4 mode in
    let all = more_arg _ _ _ _ _ c.in_ok-command.ensures c.a_name-2.ensures.global a5 faults in
    IfOk-weaker c.with_settings.result _ _ (λ r h. h ∙ ap with_settings all) c.with_settings.ensures
