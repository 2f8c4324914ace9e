use Rattle.std.proofs.Common.{subst}
use Rattle.monitor.specs.Rows.{AreStatusesOf}
use Rattle.monitor.proofs.PrefixVerdicts.{verdict_at}
use Rattle.monitor.proofs.fronts.judged_prefixes_law.Goals as goal

pub returns : goal.returns
returns c h rows v n judged =
    verdict_at (record {
      rule = c.process_rule_law.ensures;
      entries = c.key_events_law.ensures.entries;
      keyed = c.history_law.ensures.keyed;
      well = c.history_law.ensures.well;
      rising = c.history_law.ensures.rising;
      join = c.join_law.ensures;
    }) h judged.joined.0 judged.history (subst (λ l. AreStatusesOf l judged.joined.0) judged.rows_are judged.joined.1) n
