use Rattle.script_command.proofs.OneReply.{script_text_one}
use Rattle.script_command.proofs.laws.one_script_text.Goals as goal

pub returns : goal.returns
returns c = script_text_one
