use Rattle.std.proofs.Common.{◌≡◌, List, Some, Err, length, refl, sym, ap, ◌∙◌, subst}
use Rattle.std.specs.Vec.{vec_capacity}
use Rattle.edn.specs.declared.refusal.Refusal.TheVariants.{HistoryFull}
use Rattle.events.specs.declared.event.Event.{Event}
use Rattle.events.specs.declared.event.Fault.{Fault}
use Rattle.test_store.specs.Store.{MayStrike}
use Rattle.machine.specs.declared.command.Command.TheVariants.{Nemesis}
use Rattle.machine.specs.declared.command.Reply.TheVariants.{Fault as Struck}
use Rattle.harness.specs.declared.change.Change.TheVariants.{Nothing, StrikeDue}
use Rattle.harness.specs.CoreView.{CoreView, IsPrepared, MayPrepare}
use Rattle.harness.specs.SoundCore.{machine_of}
use Rattle.harness.proofs.Preparing.{seen, readied, unchanged, wants_at}
use Rattle.harness.proofs.Driving.{due}
use Rattle.harness.proofs.Striking.{has_room, no_room, due_strikes, due_is, next_due}
use Rattle.harness.proofs.Takes.{may_strike}
use Rattle.harness.proofs.core_object.Core.prepare_due.Goals as goal

pub returns-then-index-ge-MOST_EVENTS : goal.returns-then-index-ge-MOST_EVENTS
returns-then-index-ge-MOST_EVENTS c =
    let a = c.self.inside in
    let fault : Fault = c.in-Some.fault.now in
    let index : c.len-index.result ≡ length a.monitor.now.events = c.len-index.ensures.value ∙ ap (λ (l : List Event). length l) c.history.ensures.events in
    let is_due = due_is a.monitor a.source a.schedule a.store a.tickets.items c.len-index.result (Some fault) index c.in-Some.ensures in
    subst (λ (s : CoreView). MayPrepare s.machine Nemesis (Err HistoryFull) (seen a.monitor a.source a.schedule a.store a.tickets.items Nothing)) c.self.view_is
    ((next_due a.monitor a.source a.schedule a.store a.tickets.items fault is_due, no_room c.len-index.result a.monitor.now.events index c.if-index-ge-MOST_EVENTS.true), refl)

pub strike-requires-clause-may : goal.strike-requires-clause-may
strike-requires-clause-may c =
    let a = c.self.inside in
    subst (MayStrike a.store.now.replicas) (sym c.in_ok-copy.ensures)
    (due_strikes a.store.now.replicas c.len-index.result a.schedule c.in-Some.fault.now c.self.invariant.now.faults (sym c.in-Some.ensures))

pub strike-requires-clause-takes : goal.strike-requires-clause-takes
strike-requires-clause-takes c =
    let a = c.self.inside in
    let index : c.len-index.result ≡ length a.monitor.now.events = c.len-index.ensures.value ∙ ap (λ (l : List Event). length l) c.history.ensures.events in
    let may : MayStrike a.store.now.replicas c.in_ok-copy.copy = subst (MayStrike a.store.now.replicas) (sym c.in_ok-copy.ensures)
    (due_strikes a.store.now.replicas c.len-index.result a.schedule c.in-Some.fault.now c.self.invariant.now.faults (sym c.in-Some.ensures)) in
    may_strike a.monitor.now.concurrency a.store.now.replicas a.monitor.now.events c.in_ok-copy.copy c.self.invariant.now.count may
    (has_room c.len-index.result a.monitor.now.events index c.if-index-ge-MOST_EVENTS.false)

pub invariant_of-self-2 : goal.invariant_of-self-2
invariant_of-self-2 c =
    let a = c.self.inside in
    let v = c.in_ok-verdict.verdict in
    let told = c.in_ok-verdict.ensures in
    let copy : Fault = c.in_ok-copy.copy in
    let index : c.len-index.result ≡ length a.monitor.now.events = c.len-index.ensures.value ∙ ap (λ (l : List Event). length l) c.history.ensures.events in
    let may : MayStrike a.store.now.replicas copy = subst (MayStrike a.store.now.replicas) (sym c.in_ok-copy.ensures)
    (due_strikes a.store.now.replicas c.len-index.result a.schedule c.in-Some.fault.now c.self.invariant.now.faults (sym c.in-Some.ensures)) in
    let is_due = due_is a.monitor a.source a.schedule a.store a.tickets.items c.len-index.result (Some copy) index (ap (λ (f : Fault). Some f) c.in_ok-copy.ensures ∙ c.in-Some.ensures) in
    readied (machine_of a.monitor a.source a.schedule a.store a.tickets.items) (seen c.strike.new.monitor a.source a.schedule c.strike.new.store a.tickets.items StrikeDue) Nemesis (Struck copy c.len-index.result, v) (vec_capacity a.tickets) StrikeDue c.self.invariant.now
    (due a.monitor a.source a.schedule a.store a.tickets.items c.strike.new.monitor c.strike.new.store copy c.len-index.result v c.self.invariant.now may
    (has_room c.len-index.result a.monitor.now.events index c.if-index-ge-MOST_EVENTS.false) index told.store told.struck told.prepared told.verdict is_due) tt

pub returns : goal.returns
returns c =
    let a = c.self.inside in
    let v = c.in_ok-verdict.verdict in
    let told = c.in_ok-verdict.ensures in
    let copy : Fault = c.in_ok-copy.copy in
    let index : c.len-index.result ≡ length a.monitor.now.events = c.len-index.ensures.value ∙ ap (λ (l : List Event). length l) c.history.ensures.events in
    let may : MayStrike a.store.now.replicas copy = subst (MayStrike a.store.now.replicas) (sym c.in_ok-copy.ensures)
    (due_strikes a.store.now.replicas c.len-index.result a.schedule c.in-Some.fault.now c.self.invariant.now.faults (sym c.in-Some.ensures)) in
    let is_due = due_is a.monitor a.source a.schedule a.store a.tickets.items c.len-index.result (Some copy) index (ap (λ (f : Fault). Some f) c.in_ok-copy.ensures ∙ c.in-Some.ensures) in
    subst (λ (s : CoreView). IsPrepared s.machine Nemesis (Struck copy c.len-index.result, v) (seen c.strike.new.monitor a.source a.schedule c.strike.new.store a.tickets.items StrikeDue)) c.self.view_is
    (due a.monitor a.source a.schedule a.store a.tickets.items c.strike.new.monitor c.strike.new.store copy c.len-index.result v c.self.invariant.now may
    (has_room c.len-index.result a.monitor.now.events index c.if-index-ge-MOST_EVENTS.false) index told.store told.struck told.prepared told.verdict is_due)

pub returns-in_err-copy : goal.returns-in_err-copy
returns-in_err-copy c =
    let a = c.self.inside in
    let fault : Fault = c.in-Some.fault.now in
    let index : c.len-index.result ≡ length a.monitor.now.events = c.len-index.ensures.value ∙ ap (λ (l : List Event). length l) c.history.ensures.events in
    let is_due = due_is a.monitor a.source a.schedule a.store a.tickets.items c.len-index.result (Some fault) index c.in-Some.ensures in
    wants_at c.from_residual.result _ c.args.self.now _ Nemesis c.from_residual.ensures.1 c.self.view_is
    (next_due a.monitor a.source a.schedule a.store a.tickets.items fault is_due, has_room c.len-index.result a.monitor.now.events index c.if-index-ge-MOST_EVENTS.false)
    (unchanged a.monitor a.monitor a.source a.source a.schedule a.store a.store a.tickets.items a.tickets.items refl refl refl refl)

pub returns-in_err-verdict : goal.returns-in_err-verdict
returns-in_err-verdict c =
    let a = c.self.inside in
    let fault : Fault = c.in-Some.fault.now in
    let index : c.len-index.result ≡ length a.monitor.now.events = c.len-index.ensures.value ∙ ap (λ (l : List Event). length l) c.history.ensures.events in
    let is_due = due_is a.monitor a.source a.schedule a.store a.tickets.items c.len-index.result (Some fault) index c.in-Some.ensures in
    wants_at c.from_residual-in_err-verdict.result _ c.args.self.now _ Nemesis c.from_residual-in_err-verdict.ensures.1 c.self.view_is
    (next_due a.monitor a.source a.schedule a.store a.tickets.items fault is_due, has_room c.len-index.result a.monitor.now.events index c.if-index-ge-MOST_EVENTS.false)
    (unchanged a.monitor c.strike.new.monitor a.source a.source a.schedule a.store c.strike.new.store a.tickets.items a.tickets.items c.in_err-verdict.ensures.err refl c.in_err-verdict.ensures.store refl)
