use Rattle.std.proofs.Common.{◌≡◌, None, nat_eq, sym, subst, rules}
use Rattle.std.specs.List.{position}
use Rattle.linspec.specs.KeyHistory.{IsStatusOf}
use Rattle.checkpoints.specs.KeyLineView.{KeyLineView}
use Rattle.linspec.specs.JudgedHistory.{IsVerdictOn, with_event, keys_in_order}
use Rattle.monitor.specs.Monitors.{MonitorView}
use Rattle.monitor.specs.SoundMonitor.{judged_by_parts}
use Rattle.monitor.proofs.Prepared.{IsToldOf, next_is, may_begin, begin_judged, first_ready}
use Rattle.monitor.proofs.monitor.Monitor.prepare_first.Goals as goal
use Rattle.monitor.proofs.monitor.Monitor.prepare_first.Goals.{After-next_event-event}

pub next_event-event-requires : goal.next_event-event-requires
next_event-event-requires c = (c.args.event, next_is c.self.inside.history c.args.event c.in_ok-prepare_push.ensures.prepared)

told : (c : After-next_event-event) → IsToldOf (judged_by_parts c.self.inside) c.args.event c.args.key c.len-index.result c.next_event-event.result.now
told c = record {
  well = c.in_ok-prepare_push.ensures.well_formed;
  key = c.requires.key;
  index_is = c.len-index.ensures.value;
  event_is = c.next_event-event.ensures c.args.event (next_is c.self.inside.history c.args.event c.in_ok-prepare_push.ensures.prepared);
}

new : (c : After-next_event-event) → position (nat_eq c.args.key) (keys_in_order c.self.inside.history.events) ≡ None
new c = subst (λ (s : MonitorView). position (nat_eq c.args.key) (keys_in_order s.now.events) ≡ None) (sym c.self.view_is) c.requires.new

pub first_line-requires : goal.first_line-requires
first_line-requires c =
    let here = (goal.at.first_line-requires c).After-next_event-event in
    may_begin c.self.invariant.now (told here) (new here) c.next_event_law.ensures

pub invariant_of-self-2 : goal.invariant_of-self-2
invariant_of-self-2 c =
    let here = (goal.at.invariant_of-self-2 c).After-next_event-event in
    first_ready c.judging_law.ensures c.self.invariant (told here) c.in_ok-prepare_push.ensures.prepared (new here) c.status.result c.kind_of-kind.ensures c.budget_of-budget.ensures
    c.in_ok-reserve.ensures.same c.in_ok-reserve.ensures.room c.in_ok-line.ensures (subst (λ (l : KeyLineView). IsStatusOf l.now c.status.result) c.deref.ensures c.status.ensures) c.join_with-verdict.ensures

pub returns : goal.returns
returns c =
    let here = (goal.at.returns c).After-next_event-event in
    record {
      well_formed = search rules;
      prepared = search rules;
      verdict = subst (λ (s : MonitorView). IsVerdictOn (with_event c.args.event s.now) c.join_with-verdict.result) c.self.view_is
          (begin_judged c.self.invariant.now (told here) (new here) c.judging_law.ensures c.status.result c.kind_of-kind.ensures c.budget_of-budget.ensures c.in_ok-line.ensures
          (subst (λ (l : KeyLineView). IsStatusOf l.now c.status.result) c.deref.ensures c.status.ensures) c.join_with-verdict.ensures).is_verdict;
      refused = search rules;
      memory_last = search rules;
      err = search rules;
    }
