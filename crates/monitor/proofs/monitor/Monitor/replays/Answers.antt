use Rattle.std.proofs.Common.{◌≡◌, refl, ◌∙◌, arith}
use Rattle.monitor.specs.Monitors.{replays_by}
use Rattle.monitor.specs.SoundMonitor.{judged_by_parts, brought}
use Rattle.monitor.proofs.Changes.{found}
use Rattle.monitor.proofs.Replays.{replays_seen, no_events_again, rewind_counted, other_counted, counted_seen, none_seen, few_seen}
use Rattle.monitor.proofs.monitor.Monitor.replays.Goals as goal

pub returns-in_default-change : goal.returns-in_default-change
returns-in_default-change c =
    let counted = other_counted c.self.invariant c.in-Some.is c.args.key c.in_default-change.not-Rewind refl in
    record {
      counted = counted_seen c.self.invariant c.in-Some.is c.args.key c.self.view_is counted;
      few = omega arith;
      none = none_seen c.self.invariant c.in-Some.is c.args.key c.self.view_is counted;
    }

counted : (c : goal.After-replays_at) → c.replays_at.result ≡ replays_by (judged_by_parts c.self.inside) (brought c.self.inside c.in-Some.prepared) c.args.key
counted c =
    rewind_counted c.self.invariant c.in-Some.is c.args.key c.in-Rewind.is
    (replays_seen c.self.inside.lines.rows c.self.invariant.now c.args.key c.in-Some-find.place c.in-Rewind.n (found c.self.inside.lines.rows c.self.invariant.now c.args.key c.find.ensures ∙ c.in-Some-find.is) c.replays_at.ensures)

pub returns-in-Some-find : goal.returns-in-Some-find
returns-in-Some-find c = record {
  counted = counted_seen c.self.invariant c.in-Some.is c.args.key c.self.view_is (counted c);
  few = few_seen c.self.invariant c.in-Some.is c.args.key c.self.view_is (counted c);
  none = none_seen c.self.invariant c.in-Some.is c.args.key c.self.view_is (counted c);
}

pub returns-in-None-clause-counted : goal.returns-in-None-clause-counted
returns-in-None-clause-counted c =
    counted_seen c.self.invariant c.in-Some.is c.args.key c.self.view_is
    (rewind_counted c.self.invariant c.in-Some.is c.args.key c.in-Rewind.is
    (no_events_again (judged_by_parts c.self.inside) c.args.key c.in-Rewind.n (found c.self.inside.lines.rows c.self.invariant.now c.args.key c.find.ensures ∙ c.in-None.is)))
