use Rattle.std.proofs.Common.{◌++◌, ◌∷◌, []}
use Rattle.checkpoints.proofs.key_line.KeyLine.prepare_push.Given as goal

abbrev pub ghost-with : goal.ghost-with
ghost-with a = a.self.now.events ++ (a._index.now, a._event.now) ∷ []
