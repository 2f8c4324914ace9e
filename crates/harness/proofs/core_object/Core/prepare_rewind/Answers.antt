use Rattle.std.proofs.Common.{subst}
use Rattle.std.specs.Vec.{vec_capacity}
use Rattle.machine.specs.declared.command.Command.TheVariants.{Rewind}
use Rattle.machine.specs.declared.command.Reply.TheVariants.{Verdict as Says}
use Rattle.harness.specs.declared.change.Change.TheVariants.{Rewind as Cut}
use Rattle.harness.specs.CoreView.{CoreView, IsPrepared}
use Rattle.harness.specs.SoundCore.{machine_of}
use Rattle.harness.proofs.Preparing.{seen, readied, was_rewound}
use Rattle.harness.proofs.core_object.Core.prepare_rewind.Goals as goal

pub invariant_of-self-2 : goal.invariant_of-self-2
invariant_of-self-2 c =
    let a = c.self.inside in
    let v = c.in_ok-verdict.verdict in
    let told = c.in_ok-verdict.ensures in
    let monitor = c.prepare_rewind.new.self in
    readied (machine_of a.monitor a.source a.schedule a.store a.tickets.items) (seen monitor a.source a.schedule a.store a.tickets.items (Cut c.args.n))
    (Rewind c.args.n) (Says v, v) (vec_capacity a.tickets) (Cut c.args.n) c.self.invariant.now
    (was_rewound a.monitor monitor a.source a.schedule a.store a.tickets.items c.args.n _ v told.within told.prepared told.verdict) tt

pub returns : goal.returns
returns c =
    let a = c.self.inside in
    let v = c.in_ok-verdict.verdict in
    let told = c.in_ok-verdict.ensures in
    let monitor = c.prepare_rewind.new.self in
    subst (λ (s : CoreView). IsPrepared s.machine (Rewind c.args.n) (Says v, v) (seen monitor a.source a.schedule a.store a.tickets.items (Cut c.args.n))) c.self.view_is
    (was_rewound a.monitor monitor a.source a.schedule a.store a.tickets.items c.args.n _ v told.within told.prepared told.verdict)
