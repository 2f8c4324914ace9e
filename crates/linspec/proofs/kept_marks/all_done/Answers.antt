use Rattle.std.proofs.Common.{rules}
use Rattle.linspec.proofs.Questions.{each_done}
use Rattle.linspec.proofs.kept_marks.all_done.Goals as goal

pub returns : goal.returns
returns c = each_done c.args.marks.now c.all.result c.args.taken.now (search rules)
