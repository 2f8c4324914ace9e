use Rattle.std.proofs.Common.{rules}
use Rattle.linspec.proofs.Questions.{some_returned}
use Rattle.linspec.proofs.kept_marks.has_returned.Goals as goal

pub returns : goal.returns
returns c = some_returned c.args.marks.now c.any.result c.args.id (search rules)
