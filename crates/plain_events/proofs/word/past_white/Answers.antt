use Rattle.edn.specs.Text.SkipsGap.{no_gap}
use Rattle.plain_events.proofs.word.past_white.Goals as goal

pub returns-in_default : goal.returns-in_default
returns-in_default c d = no_gap

pub returns-in_default-2 : goal.returns-in_default-2
returns-in_default-2 c d = no_gap
