use Rattle.std.proofs.Common.{refl}
use Rattle.script_command.proofs.hello.hello_text.Goals as goal

pub returns : goal.returns
returns c = refl
