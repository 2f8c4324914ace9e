use Rattle.std.proofs.Common.{subst}
use Rattle.std.specs.Vec.{vec_capacity}
use Rattle.machine.specs.declared.command.Command.TheVariants.{Append}
use Rattle.machine.specs.declared.command.Reply.TheVariants.{Verdict as Says}
use Rattle.harness.specs.declared.change.Change.TheVariants.{Judged}
use Rattle.harness.specs.CoreView.{CoreView, IsPrepared}
use Rattle.harness.specs.SoundCore.{machine_of}
use Rattle.harness.proofs.Preparing.{seen, readied, appended}
use Rattle.harness.proofs.core_object.Core.prepare_append.Goals as goal

pub invariant_of-self-2 : goal.invariant_of-self-2
invariant_of-self-2 c =
    let a = c.self.inside in
    let v = c.in_ok-verdict.verdict in
    let told = c.in_ok-verdict.ensures in
    let monitor = c.prepare_append.new.self in
    readied (machine_of a.monitor a.source a.schedule a.store a.tickets.items) (seen monitor a.source a.schedule a.store a.tickets.items Judged)
    (Append c.args.event) (Says v, v) (vec_capacity a.tickets) Judged c.self.invariant.now
    (appended a.monitor monitor a.source a.schedule a.store a.tickets.items c.args.event v told.well_formed told.prepared told.verdict) tt

pub returns : goal.returns
returns c =
    let a = c.self.inside in
    let v = c.in_ok-verdict.verdict in
    let told = c.in_ok-verdict.ensures in
    let monitor = c.prepare_append.new.self in
    subst (λ (s : CoreView). IsPrepared s.machine (Append c.args.event) (Says v, v) (seen monitor a.source a.schedule a.store a.tickets.items Judged)) c.self.view_is
    (appended a.monitor monitor a.source a.schedule a.store a.tickets.items c.args.event v told.well_formed told.prepared told.verdict)
