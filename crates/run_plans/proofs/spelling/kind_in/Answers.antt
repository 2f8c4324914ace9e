use Rattle.run_plans.proofs.Spelled.{named}
use Rattle.run_plans.proofs.spelling.kind_in.Goals as goal

pub returns : goal.returns
returns c = named c.args.text.now c.of_name.result c.of_name.ensures
