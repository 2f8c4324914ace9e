use Rattle.std.proofs.Common.{◌^◌, ◌-◌, sym, ap, ◌∙◌}
use Rattle.std.specs.Prelude.{min, option_map}
use Rattle.run_plans.proofs.Spelled.{no_minus}
use Rattle.run_plans.proofs.spelling.count_in.Goals as goal

pub returns-in_err-number_in-in-None : goal.returns-in_err-number_in-in-None
unfolding lib.Utf8.encode
returns-in_err-number_in-in-None c =
    c.from_residual.ensures
    ∙ (ap (option_map (λ n. min n (2 ^ 32 - 1))) (sym c.in_err-number_in-in-None.was) ∙ no_minus c.args.text.now c.number_in.result c.in-None.ensures.cases c.number_in.ensures)
