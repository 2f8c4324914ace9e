use Rattle.std.proofs.Common.{refl, sym, subst, ◌∙◌}
use Rattle.std.specs.Vec.{vec_capacity}
use Rattle.std.proofs.lemmas.Result.{err_from_is_err_and}
use Rattle.machine.specs.declared.command.Command.TheVariants.{Serve}
use Rattle.machine.specs.declared.command.Reply.TheVariants.{Served}
use Rattle.test_store.specs.declared.outcome.Outcome.{Outcome}
use Rattle.test_store.specs.Store.{StoreView}
use Rattle.machine.specs.declared.ticket.Ticket.{Ticket}
use Rattle.harness.specs.declared.change.Change.TheVariants.{Serve as Serving}
use Rattle.harness.specs.CoreView.{CoreView, IsPrepared}
use Rattle.harness.specs.SoundCore.{machine_of}
use Rattle.harness.specs.Tickets.{MayServe as MayBeServed}
use Rattle.harness.proofs.Preparing.{seen, readied, is_of, unchanged, declines_at}
use Rattle.harness.proofs.Driving.{served, versions_fit, number_below, serves_here, in_box, at_entry}
use Rattle.harness.proofs.core_object.Core.prepare_serve.Goals as goal

pub returns-in_err-ticket : goal.returns-in_err-ticket
returns-in_err-ticket c =
    let a = c.self.inside in
    let r = c.from_residual.result in
    let (e, same, from) = err_from_is_err_and r c.from_residual.ensures.1 in
    declines_at r e c.in_err-ticket.field-0.0 _ c.args.self.now _ (Serve c.args.number) same from c.self.view_is
    (c.in_err-ticket.ensures.refused (machine_of a.monitor a.source a.schedule a.store a.tickets.items)
    (is_of a.monitor a.source a.schedule a.store a.tickets.items c.as_slice.result.now c.history.result.now (c.history.ensures.concurrency, c.history.ensures.events) c.as_slice.ensures.value))
    (unchanged a.monitor a.monitor a.source a.source a.schedule a.store a.store a.tickets.items a.tickets.items refl refl refl refl)

pub prepare_serve-requires-clause-versions : goal.prepare_serve-requires-clause-versions
prepare_serve-requires-clause-versions c =
    let a = c.self.inside in
    versions_fit (machine_of a.monitor a.source a.schedule a.store a.tickets.items) c.in_ok-ticket.ticket.now.op.key c.self.invariant.now

-- the outcome of the serve, at the entry of the ticket's thread
pub invariant_of-self-2 : goal.invariant_of-self-2
invariant_of-self-2 c =
    let a = c.self.inside in
    let t : Ticket = c.in_ok-ticket.ticket.now in
    let st : StoreView = a.store in
    let outcome = c.in_ok-boxed.boxed in
    let v = c.verdict.result in
    let ok : MayBeServed a.monitor.now.events a.tickets.items c.args.number t = serves_here _ _ _ _ c.args.number t c.history.ensures.events c.as_slice.ensures.value c.in_ok-ticket.ensures.ok in
    let may = at_entry st c.prepare_serve.new.self t outcome.value c.replica_of_thread-entry.result c.replicas.result c.replica_of_thread-entry.ensures.entry c.replicas.ensures.value
    (in_box st c.prepare_serve.new.self c.replica_of_thread-entry.result t.op c.in_ok-outcome.outcome outcome c.in_ok-boxed.ensures.ok c.in_ok-outcome.ensures.served) in
    let p = served a.monitor a.source a.schedule st a.tickets.items c.prepare_serve.new.self c.args.number t outcome v ok.0 ok.1 ok.2 may c.verdict.ensures in
    readied (machine_of a.monitor a.source a.schedule st a.tickets.items) (seen a.monitor a.source a.schedule c.prepare_serve.new.self a.tickets.items (Serving c.args.number outcome)) (Serve c.args.number) (Served outcome.value, v) (vec_capacity a.tickets) (Serving c.args.number outcome) c.self.invariant.now p
    (number_below a.tickets.items c.args.number t ok.0.0)

pub returns : goal.returns
returns c =
    let a = c.self.inside in
    let t : Ticket = c.in_ok-ticket.ticket.now in
    let st : StoreView = a.store in
    let outcome = c.in_ok-boxed.boxed in
    let v = c.verdict.result in
    let ok : MayBeServed a.monitor.now.events a.tickets.items c.args.number t = serves_here _ _ _ _ c.args.number t c.history.ensures.events c.as_slice.ensures.value c.in_ok-ticket.ensures.ok in
    let may = at_entry st c.prepare_serve.new.self t outcome.value c.replica_of_thread-entry.result c.replicas.result c.replica_of_thread-entry.ensures.entry c.replicas.ensures.value
    (in_box st c.prepare_serve.new.self c.replica_of_thread-entry.result t.op c.in_ok-outcome.outcome outcome c.in_ok-boxed.ensures.ok c.in_ok-outcome.ensures.served) in
    let p = served a.monitor a.source a.schedule st a.tickets.items c.prepare_serve.new.self c.args.number t outcome v ok.0 ok.1 ok.2 may c.verdict.ensures in
    subst (λ (o : Outcome). IsPrepared c.args.self.now.machine (Serve c.args.number) (Served o, v) (seen a.monitor a.source a.schedule c.prepare_serve.new.self a.tickets.items (Serving c.args.number outcome))) (c.in_ok-boxed.ensures.ok ∙ sym c.in_ok-copy.ensures)
    (subst (λ (s : CoreView). IsPrepared s.machine (Serve c.args.number) (Served outcome.value, v) (seen a.monitor a.source a.schedule c.prepare_serve.new.self a.tickets.items (Serving c.args.number outcome))) c.self.view_is p)
