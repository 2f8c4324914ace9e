use Rattle.std.proofs.Common.{◌≡◌, List, length, refl, ap, ◌∙◌, subst, arith}
use Rattle.std.specs.Vec.{vec_capacity}
use Rattle.std.proofs.lemmas.Result.{err_from_is_err_and}
use Rattle.events.specs.declared.event.Event.{Event}
use Rattle.generators.specs.Sources.{upcoming}
use Rattle.monitor.specs.Monitors.{MonitorView}
use Rattle.machine.specs.declared.command.Command.TheVariants.{Draw}
use Rattle.machine.specs.declared.command.Reply.TheVariants.{Drawn as HasDrawn, Pending as IsPending, Done as IsDone}
use Rattle.machine.specs.Machine.{ThreadMayDraw, idle_from}
use Rattle.harness.specs.declared.asking.Drew.{Drew}
use Rattle.harness.specs.declared.asking.Drew.TheVariants.{Op as DrewOp, Pending as DrewPending, Done as DrewDone}
use Rattle.harness.specs.declared.change.Change.TheVariants.{Same, Draw as Invoke}
use Rattle.harness.specs.Asking.{MayGiveOp}
use Rattle.harness.specs.CoreView.{CoreView, IsPrepared}
use Rattle.harness.specs.SoundCore.{machine_of}
use Rattle.harness.proofs.Showing.{Shows}
use Rattle.harness.proofs.Preparing.{seen, readied, is_of, unchanged, declines_at, wants_at}
use Rattle.harness.proofs.Driving.{has_operation, drawn, drawn_takes, pending, done}
use Rattle.harness.proofs.core_object.Core.prepare_draw.Goals as goal

pub returns-in_err-test_draw : goal.returns-in_err-test_draw
returns-in_err-test_draw c =
    let a = c.self.inside in
    let m = machine_of a.monitor a.source a.schedule a.store a.tickets.items in
    let here = is_of a.monitor a.source a.schedule a.store a.tickets.items c.as_slice.result.now c.history.result.now (c.history.ensures.concurrency, c.history.ensures.events) c.as_slice.ensures.value in
    let r = c.from_residual.result in
    let (e, same, from) = err_from_is_err_and r c.from_residual.ensures.1 in
    declines_at r e c.in_err-test_draw.field-0.0 _ c.args.self.now _ (Draw c.args.thread) same from c.self.view_is (c.in_err-test_draw.ensures.refused m here)
    (unchanged a.monitor a.monitor a.source a.source a.schedule a.store a.store a.tickets.items a.tickets.items refl refl refl refl)

pub invoke-requires-clause-thread : goal.invoke-requires-clause-thread
invoke-requires-clause-thread c =
    let a = c.self.inside in
    let m = machine_of a.monitor a.source a.schedule a.store a.tickets.items in
    let here = is_of a.monitor a.source a.schedule a.store a.tickets.items c.as_slice.result.now c.history.result.now (c.history.ensures.concurrency, c.history.ensures.events) c.as_slice.ensures.value in
    let may : ThreadMayDraw m c.args.thread = c.in_ok-test_draw.ensures.ok m here in
    may.0

pub invoke-requires-clause-takes : goal.invoke-requires-clause-takes
invoke-requires-clause-takes c =
    let a = c.self.inside in
    let m = machine_of a.monitor a.source a.schedule a.store a.tickets.items in
    let here = is_of a.monitor a.source a.schedule a.store a.tickets.items c.as_slice.result.now c.history.result.now (c.history.ensures.concurrency, c.history.ensures.events) c.as_slice.ensures.value in
    let may : ThreadMayDraw m c.args.thread = c.in_ok-test_draw.ensures.ok m here in
    let shown = c.history-2.result.now in
    let shows : Shows a.monitor shown = (c.history-2.ensures.concurrency, c.history-2.ensures.events) in
    let to = upcoming c.draw_op.new.source in
    let idle = idle_from shown.concurrency shown.events 0 shown.concurrency in
    let op = c.in-Op.op in
    let is_op : c.in_ok-op.field-0 ≡ DrewOp op = c.in-Op.is in
    let gives = subst (λ (d : Drew). MayGiveOp a.source idle c.args.thread d to) is_op c.in_ok-op.ensures.answer in
    drawn_takes a.monitor a.source a.schedule a.store a.tickets.items shown c.args.thread op to c.self.invariant.now may shows gives

pub invariant_of-self-in-Op : goal.invariant_of-self-in-Op
invariant_of-self-in-Op c =
    let a = c.self.inside in
    let m = machine_of a.monitor a.source a.schedule a.store a.tickets.items in
    let here = is_of a.monitor a.source a.schedule a.store a.tickets.items c.as_slice.result.now c.history.result.now (c.history.ensures.concurrency, c.history.ensures.events) c.as_slice.ensures.value in
    let may : ThreadMayDraw m c.args.thread = c.in_ok-test_draw.ensures.ok m here in
    let shown = c.history-2.result.now in
    let shows : Shows a.monitor shown = (c.history-2.ensures.concurrency, c.history-2.ensures.events) in
    let to = upcoming c.draw_op.new.source in
    let idle = idle_from shown.concurrency shown.events 0 shown.concurrency in
    let op = c.in-Op.op in
    let is_op : c.in_ok-op.field-0 ≡ DrewOp op = c.in-Op.is in
    let gives = subst (λ (d : Drew). MayGiveOp a.source idle c.args.thread d to) is_op c.in_ok-op.ensures.answer in
    let v = c.in_ok-ticket-in-Op.verdict in
    let t = c.in_ok-boxed-in-Op.boxed in
    let t_is = c.in_ok-boxed-in-Op.ensures.ok ∙ c.in_ok-ticket-in-Op.ensures.ticket in
    let told = c.in_ok-ticket-in-Op.ensures in
    let index : c.len-index.result ≡ length a.monitor.now.events = c.len-index.ensures.value ∙ ap (λ (l : List Event). length l) c.history-in-Op.ensures.events in
    let number : c.len-number.result ≡ length a.tickets.items = omega (arith, c.len-number.ensures) in
    let p = drawn a.monitor a.source a.schedule a.store a.tickets.items c.invoke.new.monitor c.draw_op.new.source c.invoke.new.tickets.items shown c.args.thread c.len-number.result c.len-index.result op t v
    c.self.invariant.now c.draw_op.ensures.kept told.tickets shows may gives number index t_is told.prepared told.verdict in
    readied m (seen c.invoke.new.monitor c.draw_op.new.source a.schedule a.store c.invoke.new.tickets.items (Invoke t)) (Draw c.args.thread) (HasDrawn c.len-number.result c.len-index.result, v) (vec_capacity c.invoke.new.tickets) (Invoke t) c.self.invariant.now p (omega (arith, told.room))

pub returns-in_ok-boxed-in-Op : goal.returns-in_ok-boxed-in-Op
returns-in_ok-boxed-in-Op c =
    let a = c.self.inside in
    let m = machine_of a.monitor a.source a.schedule a.store a.tickets.items in
    let here = is_of a.monitor a.source a.schedule a.store a.tickets.items c.as_slice.result.now c.history.result.now (c.history.ensures.concurrency, c.history.ensures.events) c.as_slice.ensures.value in
    let may : ThreadMayDraw m c.args.thread = c.in_ok-test_draw.ensures.ok m here in
    let shown = c.history-2.result.now in
    let shows : Shows a.monitor shown = (c.history-2.ensures.concurrency, c.history-2.ensures.events) in
    let to = upcoming c.draw_op.new.source in
    let idle = idle_from shown.concurrency shown.events 0 shown.concurrency in
    let op = c.in-Op.op in
    let is_op : c.in_ok-op.field-0 ≡ DrewOp op = c.in-Op.is in
    let gives = subst (λ (d : Drew). MayGiveOp a.source idle c.args.thread d to) is_op c.in_ok-op.ensures.answer in
    let v = c.in_ok-ticket-in-Op.verdict in
    let t = c.in_ok-boxed-in-Op.boxed in
    let t_is = c.in_ok-boxed-in-Op.ensures.ok ∙ c.in_ok-ticket-in-Op.ensures.ticket in
    let told = c.in_ok-ticket-in-Op.ensures in
    let index : c.len-index.result ≡ length a.monitor.now.events = c.len-index.ensures.value ∙ ap (λ (l : List Event). length l) c.history-in-Op.ensures.events in
    let number : c.len-number.result ≡ length a.tickets.items = omega (arith, c.len-number.ensures) in
    let p = drawn a.monitor a.source a.schedule a.store a.tickets.items c.invoke.new.monitor c.draw_op.new.source c.invoke.new.tickets.items shown c.args.thread c.len-number.result c.len-index.result op t v
    c.self.invariant.now c.draw_op.ensures.kept told.tickets shows may gives number index t_is told.prepared told.verdict in
    subst (λ (s : CoreView). IsPrepared s.machine (Draw c.args.thread) (HasDrawn c.len-number.result c.len-index.result, v) (seen c.invoke.new.monitor c.draw_op.new.source a.schedule a.store c.invoke.new.tickets.items (Invoke t))) c.self.view_is p

pub returns-in-Pending : goal.returns-in-Pending
returns-in-Pending c =
    let a = c.self.inside in
    let m = machine_of a.monitor a.source a.schedule a.store a.tickets.items in
    let here = is_of a.monitor a.source a.schedule a.store a.tickets.items c.as_slice.result.now c.history.result.now (c.history.ensures.concurrency, c.history.ensures.events) c.as_slice.ensures.value in
    let may : ThreadMayDraw m c.args.thread = c.in_ok-test_draw.ensures.ok m here in
    let shown = c.history-2.result.now in
    let shows : Shows a.monitor shown = (c.history-2.ensures.concurrency, c.history-2.ensures.events) in
    let to = upcoming c.draw_op.new.source in
    let idle = idle_from shown.concurrency shown.events 0 shown.concurrency in
    let is_none : c.in_ok-op.field-0 ≡ DrewPending = c.in-Pending.is in
    let gives = subst (λ (d : Drew). MayGiveOp a.source idle c.args.thread d to) is_none c.in_ok-op.ensures.answer in
    let v = c.verdict.result in
    subst (λ (s : CoreView). IsPrepared s.machine (Draw c.args.thread) (IsPending, v) (seen a.monitor c.draw_op.new.source a.schedule a.store a.tickets.items Same)) c.self.view_is
    (pending a.monitor a.source a.schedule a.store a.tickets.items c.draw_op.new.source shown c.args.thread v c.draw_op.ensures.kept shows may c.verdict.ensures to gives)

pub returns-in-Done : goal.returns-in-Done
returns-in-Done c =
    let a = c.self.inside in
    let m = machine_of a.monitor a.source a.schedule a.store a.tickets.items in
    let here = is_of a.monitor a.source a.schedule a.store a.tickets.items c.as_slice.result.now c.history.result.now (c.history.ensures.concurrency, c.history.ensures.events) c.as_slice.ensures.value in
    let may : ThreadMayDraw m c.args.thread = c.in_ok-test_draw.ensures.ok m here in
    let shown = c.history-2.result.now in
    let shows : Shows a.monitor shown = (c.history-2.ensures.concurrency, c.history-2.ensures.events) in
    let to = upcoming c.draw_op.new.source in
    let idle = idle_from shown.concurrency shown.events 0 shown.concurrency in
    let is_none : c.in_ok-op.field-0 ≡ DrewDone = c.in-Done.is in
    let gives = subst (λ (d : Drew). MayGiveOp a.source idle c.args.thread d to) is_none c.in_ok-op.ensures.answer in
    let v = c.verdict-in-Done.result in
    subst (λ (s : CoreView). IsPrepared s.machine (Draw c.args.thread) (IsDone, v) (seen a.monitor c.draw_op.new.source a.schedule a.store a.tickets.items Same)) c.self.view_is
    (done a.monitor a.source a.schedule a.store a.tickets.items c.draw_op.new.source shown c.args.thread v c.draw_op.ensures.kept shows may c.verdict-in-Done.ensures to gives)

pub returns-in_err-op : goal.returns-in_err-op
returns-in_err-op c =
    let a = c.self.inside in
    let m = machine_of a.monitor a.source a.schedule a.store a.tickets.items in
    let here = is_of a.monitor a.source a.schedule a.store a.tickets.items c.as_slice.result.now c.history.result.now (c.history.ensures.concurrency, c.history.ensures.events) c.as_slice.ensures.value in
    let may : ThreadMayDraw m c.args.thread = c.in_ok-test_draw.ensures.ok m here in
    let shown = c.history-2.result.now in
    let shows : Shows a.monitor shown = (c.history-2.ensures.concurrency, c.history-2.ensures.events) in
    wants_at c.from_residual-in_err-op.result _ c.args.self.now _ (Draw c.args.thread) c.from_residual-in_err-op.ensures.1 c.self.view_is
    (may, has_operation a.monitor a.source a.schedule a.store a.tickets.items shown c.args.thread shows c.in_err-op.ensures.item)
    (unchanged a.monitor a.monitor a.source c.draw_op.new.source a.schedule a.store a.store a.tickets.items a.tickets.items refl c.draw_op.ensures.kept refl refl)

pub returns-in_err-ticket-in-Op : goal.returns-in_err-ticket-in-Op
returns-in_err-ticket-in-Op c =
    let a = c.self.inside in
    let m = machine_of a.monitor a.source a.schedule a.store a.tickets.items in
    let here = is_of a.monitor a.source a.schedule a.store a.tickets.items c.as_slice.result.now c.history.result.now (c.history.ensures.concurrency, c.history.ensures.events) c.as_slice.ensures.value in
    let may : ThreadMayDraw m c.args.thread = c.in_ok-test_draw.ensures.ok m here in
    let shown = c.history-2.result.now in
    let shows : Shows a.monitor shown = (c.history-2.ensures.concurrency, c.history-2.ensures.events) in
    let to = upcoming c.draw_op.new.source in
    let idle = idle_from shown.concurrency shown.events 0 shown.concurrency in
    let op = c.in-Op.op in
    let is_op : c.in_ok-op.field-0 ≡ DrewOp op = c.in-Op.is in
    let gives = subst (λ (d : Drew). MayGiveOp a.source idle c.args.thread d to) is_op c.in_ok-op.ensures.answer in
    wants_at c.from_residual-in_err-ticket-in-Op.result _ c.args.self.now _ (Draw c.args.thread) c.from_residual-in_err-ticket-in-Op.ensures.1 c.self.view_is
    (may, has_operation a.monitor a.source a.schedule a.store a.tickets.items shown c.args.thread shows (op, to, gives))
    (unchanged a.monitor c.invoke.new.monitor a.source c.draw_op.new.source a.schedule a.store a.store a.tickets.items c.invoke.new.tickets.items c.in_err-ticket-in-Op.ensures.err c.draw_op.ensures.kept refl c.in_err-ticket-in-Op.ensures.tickets)

pub returns-in_err-boxed-in-Op : goal.returns-in_err-boxed-in-Op
returns-in_err-boxed-in-Op c =
    let a = c.self.inside in
    let m = machine_of a.monitor a.source a.schedule a.store a.tickets.items in
    let here = is_of a.monitor a.source a.schedule a.store a.tickets.items c.as_slice.result.now c.history.result.now (c.history.ensures.concurrency, c.history.ensures.events) c.as_slice.ensures.value in
    let may : ThreadMayDraw m c.args.thread = c.in_ok-test_draw.ensures.ok m here in
    let shown = c.history-2.result.now in
    let shows : Shows a.monitor shown = (c.history-2.ensures.concurrency, c.history-2.ensures.events) in
    let to = upcoming c.draw_op.new.source in
    let idle = idle_from shown.concurrency shown.events 0 shown.concurrency in
    let op = c.in-Op.op in
    let is_op : c.in_ok-op.field-0 ≡ DrewOp op = c.in-Op.is in
    let gives = subst (λ (d : Drew). MayGiveOp a.source idle c.args.thread d to) is_op c.in_ok-op.ensures.answer in
    wants_at c.from_residual-in_err-boxed-in-Op.result _ c.args.self.now _ (Draw c.args.thread) c.from_residual-in_err-boxed-in-Op.ensures.1 c.self.view_is
    (may, has_operation a.monitor a.source a.schedule a.store a.tickets.items shown c.args.thread shows (op, to, gives))
    (unchanged a.monitor c.invoke.new.monitor a.source c.draw_op.new.source a.schedule a.store a.store a.tickets.items c.invoke.new.tickets.items (ap (λ (x : MonitorView). x.now) c.in_ok-ticket-in-Op.ensures.prepared) c.draw_op.ensures.kept refl c.in_ok-ticket-in-Op.ensures.tickets)
