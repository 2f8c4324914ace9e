use Rattle.std.proofs.Common.{◌-◌, length}
use Rattle.wide_register.proofs.gather.+gather_by.Given as goal

abbrev pub decreases-gather_by : goal.decreases-gather_by
decreases-gather_by l = length l.ids.now - l.at
