use Rattle.std.proofs.Common.{◌≡◌, Some, nat_eq, sym, subst, rules}
use Rattle.std.specs.List.{position}
use Rattle.linspec.specs.JudgedHistory.{IsVerdictOn, with_event, keys_in_order}
use Rattle.monitor.specs.Monitors.{MonitorView}
use Rattle.monitor.specs.SoundMonitor.{judged_by_parts}
use Rattle.monitor.proofs.Prepared.{IsToldOf, next_is, may_push, push_judged, next_ready}
use Rattle.monitor.proofs.monitor.Monitor.prepare_next.Goals as goal
use Rattle.monitor.proofs.monitor.Monitor.prepare_next.Goals.{After-next_event-event}

pub next_event-event-requires : goal.next_event-event-requires
next_event-event-requires c = (c.args.event, next_is c.self.inside.history c.args.event c.in_ok-prepare_push.ensures.prepared)

told : (c : After-next_event-event) → IsToldOf (judged_by_parts c.self.inside) c.args.event c.args.key c.len-index.result c.next_event-event.result.now
told c = record {
  well = c.in_ok-prepare_push.ensures.well_formed;
  key = c.requires.key;
  index_is = c.len-index.ensures.value;
  event_is = c.next_event-event.ensures c.args.event (next_is c.self.inside.history c.args.event c.in_ok-prepare_push.ensures.prepared);
}

place : (c : After-next_event-event) → position (nat_eq c.args.key) (keys_in_order c.self.inside.history.events) ≡ Some c.args.place
place c = subst (λ (s : MonitorView). position (nat_eq c.args.key) (keys_in_order s.now.events) ≡ Some c.args.place) (sym c.self.view_is) c.requires.place

pub prepare_push-requires-2 : goal.prepare_push-requires-2
prepare_push-requires-2 c =
    let here = (goal.at.prepare_push-requires-2 c).After-next_event-event in
    may_push c.next_event_law.ensures c.self.inside.lines.rows c.self.invariant.now (told here) c.args.place (place here)

pub invariant_of-self-2 : goal.invariant_of-self-2
invariant_of-self-2 c =
    let here = (goal.at.invariant_of-self-2 c).After-next_event-event in
    next_ready c.judging_law.ensures c.bad_keys_law.ensures c.next_event_law.ensures c.final_status_law.ensures.no_other c.self.invariant (told here) c.in_ok-prepare_push.ensures.prepared (place here) c.in_ok-status.status
    c.in_ok-status.ensures.status c.in_ok-status.ensures.next c.in_ok-status.ensures.kept c.join_with-verdict.ensures

pub returns : goal.returns
returns c =
    let here = (goal.at.returns c).After-next_event-event in
    record {
      well_formed = search rules;
      prepared = search rules;
      verdict = subst (λ (s : MonitorView). IsVerdictOn (with_event c.args.event s.now) c.join_with-verdict.result) c.self.view_is
          (push_judged c.next_event_law.ensures c.self.inside.lines.rows c.self.invariant.now (told here) c.args.place (place here) c.judging_law.ensures c.bad_keys_law.ensures c.final_status_law.ensures.no_other c.in_ok-status.status
          c.in_ok-status.ensures.status c.join_with-verdict.ensures).is_verdict;
      refused = search rules;
      memory_last = search rules;
      err = search rules;
    }
