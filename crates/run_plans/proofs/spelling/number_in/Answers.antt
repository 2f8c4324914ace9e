use Rattle.std.proofs.Common.{◌^◌, ◌-◌, sym, ap, ◌∙◌}
use Rattle.std.specs.Prelude.{min, option_map, unwrap_or}
use Rattle.run_plans.specs.Options.{digits_spelled}
use Rattle.run_plans.proofs.Spelled.{not_after}
use Rattle.run_plans.proofs.spelling.number_in.Goals as goal

pub returns-in-None : goal.returns-in-None
unfolding lib.Utf8.encode
returns-in-None c =
    let text = c.args.text.now in
    c.digits_in-in-None.ensures ∙ ap (λ o. option_map (λ n. min n (2 ^ 64 - 1)) (digits_spelled (unwrap_or o text))) (sym (not_after 43 text c.in-None.ensures.cases))
