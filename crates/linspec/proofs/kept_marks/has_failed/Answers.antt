use Rattle.std.proofs.Common.{rules}
use Rattle.linspec.proofs.Questions.{some_failed}
use Rattle.linspec.proofs.kept_marks.has_failed.Goals as goal

pub returns : goal.returns
returns c = some_failed c.args.marks.now c.any.result c.args.id (search rules)
