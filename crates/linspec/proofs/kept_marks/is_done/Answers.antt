use Rattle.linspec.proofs.Questions.{done_by}
use Rattle.linspec.proofs.kept_marks.is_done.Goals as goal

pub returns-in-Returned : goal.returns-in-Returned
returns-in-Returned c = done_by c.args.taken.now c.args.mark.now c.in-Returned.id c.in-Returned.field-1 c.is_among.result c.in-Returned.is c.is_among.ensures
