use Rattle.script_command.proofs.OneReply.{reply_one}
use Rattle.script_command.proofs.laws.one_reply.Goals as goal

pub returns : goal.returns
returns c = reply_one
