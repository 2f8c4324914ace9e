use Rattle.std.proofs.Common.{rules}
use Rattle.linspec.proofs.Questions.{each_fits}
use Rattle.linspec.proofs.kept_marks.agrees_with_answer.Goals as goal

pub returns : goal.returns
returns c = each_fits c.args.marks.now c.all.result c.args.id c.args.found.now (search rules)
