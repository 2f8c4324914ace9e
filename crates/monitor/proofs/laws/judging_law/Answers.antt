use Rattle.monitor.proofs.Verdicts.{judged}
use Rattle.monitor.proofs.laws.judging_law.Goals as goal

pub returns : goal.returns
returns c =
    judged (record {
      rule = c.process_rule_law.ensures;
      entries = c.key_events_law.ensures.entries;
      keyed = c.history_law.ensures.keyed;
      well = c.history_law.ensures.well;
      rising = c.history_law.ensures.rising;
      join = c.join_law.ensures;
    })
