use Rattle.std.proofs.Common.{◌≡◌, List, None, Err, length, refl, sym, ap, ◌∙◌, subst}
use Rattle.std.specs.Vec.{vec_capacity}
use Rattle.edn.specs.declared.refusal.Refusal.{Refusal}
use Rattle.edn.specs.declared.refusal.Refusal.TheVariants.{Idle}
use Rattle.events.specs.declared.event.Event.{Event}
use Rattle.events.specs.declared.event.Fault.{Fault}
use Rattle.std.proofs.Common.{Option}
use Rattle.generators.specs.Sources.{upcoming}
use Rattle.machine.specs.declared.command.Command.TheVariants.{Nemesis}
use Rattle.machine.specs.declared.command.Reply.TheVariants.{Fault as Struck}
use Rattle.machine.specs.Machine.{first_due, idle_from}
use Rattle.harness.specs.Asking.{MayGiveFault}
use Rattle.harness.specs.declared.change.Change.TheVariants.{Nothing, StrikeDrawn}
use Rattle.harness.specs.CoreView.{CoreView, IsPrepared, MayPrepare, MayDecline}
use Rattle.harness.specs.SoundCore.{machine_of}
use Rattle.harness.proofs.Showing.{Shows}
use Rattle.harness.proofs.Preparing.{seen, readied, unchanged, wants_at}
use Rattle.harness.proofs.Driving.{drawn_strikes, given_fault}
use Rattle.harness.proofs.Striking.{has_room, no_room, no_fault, next_given, refused_full}
use Rattle.harness.proofs.Takes.{may_strike}
use Rattle.harness.proofs.core_object.Core.prepare_generated.Goals as goal

pub returns-in_default : goal.returns-in_default
returns-in_default c =
    let a = c.self.inside in
    let shown = c.history-history.result.now in
    let shows : Shows a.monitor shown = (c.history-history.ensures.concurrency, c.history-history.ensures.events) in
    let to = upcoming c.draw_fault.new.source in
    let idle = idle_from shown.concurrency shown.events 0 shown.concurrency in
    let none = subst (λ (s : CoreView). first_due s.machine ≡ None) (sym c.self.view_is) c.requires in
    let gives = subst (λ (o : Option Fault). MayGiveFault a.source idle o to) c.in_default.is c.in_ok-fault.ensures.answer in
    subst (λ (s : CoreView). MayPrepare s.machine Nemesis (Err Idle) (seen a.monitor c.draw_fault.new.source a.schedule a.store a.tickets.items Nothing)) c.self.view_is (
      no_fault a.monitor a.source a.schedule a.store a.tickets.items shown to shows none gives,
      unchanged a.monitor a.monitor a.source c.draw_fault.new.source a.schedule a.store a.store a.tickets.items a.tickets.items refl c.draw_fault.ensures.kept refl refl,
    )

pub returns-then-index-ge-MOST_EVENTS :
    goal.returns-then-index-ge-MOST_EVENTS
returns-then-index-ge-MOST_EVENTS c =
    let a = c.self.inside in
    let shown = c.history-history.result.now in
    let shows : Shows a.monitor shown = (c.history-history.ensures.concurrency, c.history-history.ensures.events) in
    let none = subst (λ (s : CoreView). first_due s.machine ≡ None) (sym c.self.view_is) c.requires in
    let index : c.len-index.result ≡ length a.monitor.now.events = c.len-index.ensures.value ∙ ap (λ (l : List Event). length l) c.history-history.ensures.events in
    let why = refused_full a.monitor a.source a.schedule a.store a.tickets.items shown c.draw_fault-drawn.result (upcoming c.draw_fault-drawn.new.source) shows none
    (no_room c.len-index.result a.monitor.now.events index c.if-index-ge-MOST_EVENTS.true) c.draw_fault-drawn.ensures.answer c.draw_fault-drawn.ensures.item in
    subst (λ (s : CoreView). MayPrepare s.machine Nemesis (Err c.why_full.result) (seen a.monitor c.draw_fault-drawn.new.source a.schedule a.store a.tickets.items Nothing)) c.self.view_is (
      subst (λ (w : Refusal). MayDecline (machine_of a.monitor a.source a.schedule a.store a.tickets.items) Nemesis w) (sym c.why_full.ensures) why,
      unchanged a.monitor a.monitor a.source c.draw_fault-drawn.new.source a.schedule a.store a.store a.tickets.items a.tickets.items refl c.draw_fault-drawn.ensures.kept refl refl,
    )

pub returns-in_err-fault : goal.returns-in_err-fault
returns-in_err-fault c =
    let a = c.self.inside in
    let shown = c.history-history.result.now in
    let shows : Shows a.monitor shown = (c.history-history.ensures.concurrency, c.history-history.ensures.events) in
    let none = subst (λ (s : CoreView). first_due s.machine ≡ None) (sym c.self.view_is) c.requires in
    let index : c.len-index.result ≡ length a.monitor.now.events = c.len-index.ensures.value ∙ ap (λ (l : List Event). length l) c.history-history.ensures.events in
    let has = c.in_err-fault.ensures.item in
    wants_at c.from_residual.result _ c.args.self.now _ Nemesis c.from_residual.ensures.1 c.self.view_is
    (next_given a.monitor a.source a.schedule a.store a.tickets.items shown has.0 has.1 shows none has.2, has_room c.len-index.result a.monitor.now.events index c.if-index-ge-MOST_EVENTS.false)
    (unchanged a.monitor a.monitor a.source c.draw_fault.new.source a.schedule a.store a.store a.tickets.items a.tickets.items refl c.draw_fault.ensures.kept refl refl)

pub returns-in_err-verdict : goal.returns-in_err-verdict
returns-in_err-verdict c =
    let a = c.self.inside in
    let shown = c.history-history.result.now in
    let shows : Shows a.monitor shown = (c.history-history.ensures.concurrency, c.history-history.ensures.events) in
    let none = subst (λ (s : CoreView). first_due s.machine ≡ None) (sym c.self.view_is) c.requires in
    let index : c.len-index.result ≡ length a.monitor.now.events = c.len-index.ensures.value ∙ ap (λ (l : List Event). length l) c.history-history.ensures.events in
    let to = upcoming c.draw_fault.new.source in
    let idle = idle_from shown.concurrency shown.events 0 shown.concurrency in
    let fault : Fault = c.in-Some.fault in
    let gives = subst (λ (o : Option Fault). MayGiveFault a.source idle o to) c.in-Some.is c.in_ok-fault.ensures.answer in
    wants_at c.from_residual-in_err-verdict.result _ c.args.self.now _ Nemesis c.from_residual-in_err-verdict.ensures.1 c.self.view_is
    (next_given a.monitor a.source a.schedule a.store a.tickets.items shown fault to shows none gives, has_room c.len-index.result a.monitor.now.events index c.if-index-ge-MOST_EVENTS.false)
    (unchanged a.monitor c.strike.new.monitor a.source c.draw_fault.new.source a.schedule a.store c.strike.new.store a.tickets.items a.tickets.items c.in_err-verdict.ensures.err c.draw_fault.ensures.kept c.in_err-verdict.ensures.store refl)

pub strike-requires-clause-may : goal.strike-requires-clause-may
strike-requires-clause-may c =
    let a = c.self.inside in
    let shown = c.history-history.result.now in
    let shows : Shows a.monitor shown = (c.history-history.ensures.concurrency, c.history-history.ensures.events) in
    let to = upcoming c.draw_fault.new.source in
    let idle = idle_from shown.concurrency shown.events 0 shown.concurrency in
    let fault : Fault = c.in-Some.fault in
    let gives = subst (λ (o : Option Fault). MayGiveFault a.source idle o to) c.in-Some.is c.in_ok-fault.ensures.answer in
    drawn_strikes a.monitor a.source a.schedule a.store a.tickets.items shown fault to c.self.invariant.now shows gives

pub strike-requires-clause-takes : goal.strike-requires-clause-takes
strike-requires-clause-takes c =
    let a = c.self.inside in
    let shown = c.history-history.result.now in
    let shows : Shows a.monitor shown = (c.history-history.ensures.concurrency, c.history-history.ensures.events) in
    let to = upcoming c.draw_fault.new.source in
    let idle = idle_from shown.concurrency shown.events 0 shown.concurrency in
    let fault : Fault = c.in-Some.fault in
    let gives = subst (λ (o : Option Fault). MayGiveFault a.source idle o to) c.in-Some.is c.in_ok-fault.ensures.answer in
    let index : c.len-index.result ≡ length a.monitor.now.events = c.len-index.ensures.value ∙ ap (λ (l : List Event). length l) c.history-history.ensures.events in
    let may = drawn_strikes a.monitor a.source a.schedule a.store a.tickets.items shown fault to c.self.invariant.now shows gives in
    may_strike a.monitor.now.concurrency a.store.now.replicas a.monitor.now.events fault c.self.invariant.now.count may
    (has_room c.len-index.result a.monitor.now.events index c.if-index-ge-MOST_EVENTS.false)

pub invariant_of-self-2 : goal.invariant_of-self-2
invariant_of-self-2 c =
    let a = c.self.inside in
    let shown = c.history-history.result.now in
    let shows : Shows a.monitor shown = (c.history-history.ensures.concurrency, c.history-history.ensures.events) in
    let to = upcoming c.draw_fault.new.source in
    let idle = idle_from shown.concurrency shown.events 0 shown.concurrency in
    let none = subst (λ (s : CoreView). first_due s.machine ≡ None) (sym c.self.view_is) c.requires in
    let fault : Fault = c.in-Some.fault in
    let gives = subst (λ (o : Option Fault). MayGiveFault a.source idle o to) c.in-Some.is c.in_ok-fault.ensures.answer in
    let index : c.len-index.result ≡ length a.monitor.now.events = c.len-index.ensures.value ∙ ap (λ (l : List Event). length l) c.history-history.ensures.events in
    let may = drawn_strikes a.monitor a.source a.schedule a.store a.tickets.items shown fault to c.self.invariant.now shows gives in
    let v = c.in_ok-verdict.verdict in
    let told = c.in_ok-verdict.ensures in
    readied (machine_of a.monitor a.source a.schedule a.store a.tickets.items) (seen c.strike.new.monitor c.draw_fault.new.source a.schedule c.strike.new.store a.tickets.items StrikeDrawn) Nemesis (Struck fault c.len-index.result, v) (vec_capacity a.tickets) StrikeDrawn c.self.invariant.now
    (given_fault a.monitor a.source a.schedule a.store a.tickets.items c.strike.new.monitor c.strike.new.store fault c.len-index.result v c.self.invariant.now may
    (has_room c.len-index.result a.monitor.now.events index c.if-index-ge-MOST_EVENTS.false) index told.store told.struck told.prepared told.verdict c.draw_fault.new.source shown c.draw_fault.ensures.kept shows none gives) tt

pub returns : goal.returns
returns c =
    let a = c.self.inside in
    let shown = c.history-history.result.now in
    let shows : Shows a.monitor shown = (c.history-history.ensures.concurrency, c.history-history.ensures.events) in
    let to = upcoming c.draw_fault.new.source in
    let idle = idle_from shown.concurrency shown.events 0 shown.concurrency in
    let none = subst (λ (s : CoreView). first_due s.machine ≡ None) (sym c.self.view_is) c.requires in
    let fault : Fault = c.in-Some.fault in
    let gives = subst (λ (o : Option Fault). MayGiveFault a.source idle o to) c.in-Some.is c.in_ok-fault.ensures.answer in
    let index : c.len-index.result ≡ length a.monitor.now.events = c.len-index.ensures.value ∙ ap (λ (l : List Event). length l) c.history-history.ensures.events in
    let may = drawn_strikes a.monitor a.source a.schedule a.store a.tickets.items shown fault to c.self.invariant.now shows gives in
    let v = c.in_ok-verdict.verdict in
    let told = c.in_ok-verdict.ensures in
    subst (λ (s : CoreView). IsPrepared s.machine Nemesis (Struck fault c.len-index.result, v) (seen c.strike.new.monitor c.draw_fault.new.source a.schedule c.strike.new.store a.tickets.items StrikeDrawn)) c.self.view_is
    (given_fault a.monitor a.source a.schedule a.store a.tickets.items c.strike.new.monitor c.strike.new.store fault c.len-index.result v c.self.invariant.now may
    (has_room c.len-index.result a.monitor.now.events index c.if-index-ge-MOST_EVENTS.false) index told.store told.struck told.prepared told.verdict c.draw_fault.new.source shown c.draw_fault.ensures.kept shows none gives)
