use Rattle.std.proofs.Common.{take}
use Rattle.checkpoints.proofs.key_line.KeyLine.prepare_cut.Given as goal

abbrev pub ghost-first : goal.ghost-first
ghost-first a = take a._count.now a.self.now.events
