use Rattle.std.proofs.Common.{refl, ap}
use Rattle.monitor.specs.SoundMonitor.{judged_of}
use Rattle.monitor.proofs.Carried.{sound_at_rest}
use Rattle.monitor.proofs.monitor.Monitor.of_lines.Goals as goal

pub invariant_of-result : goal.invariant_of-result
invariant_of-result c = sound_at_rest (ap (judged_of c.args.history) c.new.ensures) refl refl refl c.requires
