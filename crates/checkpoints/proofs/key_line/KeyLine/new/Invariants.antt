use Rattle.std.proofs.Common.{[]}
use Rattle.checkpoints.proofs.key_line.KeyLine.new.Given as goal

abbrev pub ghost-picked_events : goal.ghost-picked_events
ghost-picked_events a = []
