use Rattle.std.proofs.Common.{refl, subst}
use Rattle.std.specs.Vec.{vec_capacity}
use Rattle.std.proofs.lemmas.Result.{err_from_is_err_and}
use Rattle.machine.specs.declared.command.Command.TheVariants.{Finish}
use Rattle.machine.specs.declared.command.Reply.TheVariants.{Verdict as Says}
use Rattle.harness.specs.declared.change.Change.TheVariants.{Judged}
use Rattle.harness.specs.CoreView.{CoreView, IsPrepared}
use Rattle.harness.specs.SoundCore.{machine_of}
use Rattle.harness.proofs.Preparing.{seen, readied, is_of, unchanged, declines_at}
use Rattle.harness.proofs.Driving.{finish_takes, finished, finishes_here}
use Rattle.harness.proofs.core_object.Core.prepare_finish.Goals as goal

pub returns-in_err-event : goal.returns-in_err-event
returns-in_err-event c =
    let a = c.self.inside in
    let r = c.from_residual.result in
    let (e, same, from) = err_from_is_err_and r c.from_residual.ensures.1 in
    declines_at r e c.in_err-event.field-0.0 _ c.args.self.now _ (Finish c.args.number) same from c.self.view_is
    (c.in_err-event.ensures.refused (machine_of a.monitor a.source a.schedule a.store a.tickets.items)
    (is_of a.monitor a.source a.schedule a.store a.tickets.items c.as_slice.result.now c.history.result.now (c.history.ensures.concurrency, c.history.ensures.events) c.as_slice.ensures.value))
    (unchanged a.monitor a.monitor a.source a.source a.schedule a.store a.store a.tickets.items a.tickets.items refl refl refl refl)

pub append-requires : goal.append-requires
append-requires c =
    let a = c.self.inside in
    finish_takes a.monitor a.source a.schedule a.store a.tickets.items c.args.number c.in_ok-event.event c.self.invariant.now
    (finishes_here _ _ _ _ c.args.number c.in_ok-event.event c.history.ensures.events c.as_slice.ensures.value c.in_ok-event.ensures.ok)

pub invariant_of-self-2 : goal.invariant_of-self-2
invariant_of-self-2 c =
    let a = c.self.inside in
    let v = c.in_ok-verdict.verdict in
    let told = c.in_ok-verdict.ensures in
    let monitor = c.append.new.monitor in
    readied (machine_of a.monitor a.source a.schedule a.store a.tickets.items) (seen monitor a.source a.schedule a.store a.tickets.items Judged) (Finish c.args.number) (Says v, v) (vec_capacity a.tickets) Judged c.self.invariant.now
    (finished a.monitor a.source a.schedule a.store a.tickets.items monitor c.args.number c.in_ok-event.event v c.self.invariant.now
    (finishes_here _ _ _ _ c.args.number c.in_ok-event.event c.history.ensures.events c.as_slice.ensures.value c.in_ok-event.ensures.ok) told.prepared told.verdict) tt

pub returns : goal.returns
returns c =
    let a = c.self.inside in
    let v = c.in_ok-verdict.verdict in
    let told = c.in_ok-verdict.ensures in
    let monitor = c.append.new.monitor in
    subst (λ (s : CoreView). IsPrepared s.machine (Finish c.args.number) (Says v, v) (seen monitor a.source a.schedule a.store a.tickets.items Judged)) c.self.view_is
    (finished a.monitor a.source a.schedule a.store a.tickets.items monitor c.args.number c.in_ok-event.event v c.self.invariant.now
    (finishes_here _ _ _ _ c.args.number c.in_ok-event.event c.history.ensures.events c.as_slice.ensures.value c.in_ok-event.ensures.ok) told.prepared told.verdict)
