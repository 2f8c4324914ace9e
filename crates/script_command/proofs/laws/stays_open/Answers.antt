use Rattle.script_command.proofs.OneReply.{open_stays}
use Rattle.script_command.proofs.laws.stays_open.Goals as goal

pub returns : goal.returns
returns c = open_stays
