use Rattle.confirm_command.proofs.Told.{told_line}
use Rattle.confirm_command.proofs.telling.tell.Goals as goal

pub returns-in-None : goal.returns-in-None
returns-in-None g c =
    told_line _ _ _ _ _ c.args.found.now c.in-None.ensures.none.0 c.in-None.ensures.none.1 c.line_of.result c.line_of.ensures c.status_of-in-None.result c.status_of-in-None.ensures c.tell_line.ensures
