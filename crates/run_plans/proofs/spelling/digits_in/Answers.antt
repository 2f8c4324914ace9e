use Rattle.std.proofs.Common.{ap, ◌∙◌}
use Rattle.std.proofs.Common.{Some, rules}
use Rattle.run_plans.proofs.Spelled.{read_digits}
use Rattle.run_plans.proofs.spelling.digits_in.Goals as goal

pub returns : goal.returns
returns c = ap Some c.unwrap_or.ensures ∙ read_digits c.args.text.now c.parse.result (search rules) c.parse.ensures.value.0
