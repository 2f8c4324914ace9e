use Rattle.linspec.specs.Ends.{is_no_read}
use Rattle.monitor.proofs.JoinOf.{verdict_joins}
use Rattle.monitor.proofs.joined.verdict_joins_law.Goals as goal

pub returns : goal.returns
returns c = verdict_joins c.judging_law.ensures (c.one_answer_law.ensures.verdict is_no_read) c.places_rise.ensures
