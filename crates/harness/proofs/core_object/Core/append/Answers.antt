use Rattle.std.proofs.Common.{refl, subst}
use Rattle.std.specs.Vec.{vec_capacity}
use Rattle.std.specs.Prelude.{Ok}
use Rattle.machine.specs.declared.command.Command.TheVariants.{Append}
use Rattle.machine.specs.declared.command.Reply.TheVariants.{Verdict as Says}
use Rattle.harness.specs.declared.change.Change.TheVariants.{Nothing}
use Rattle.harness.specs.CoreView.{CoreView, MayCarryOut}
use Rattle.harness.specs.SoundCore.{machine_of}
use Rattle.harness.proofs.Preparing.{seen, stepped, appended_at_once}
use Rattle.harness.proofs.core_object.Core.append.Goals as goal

pub invariant_of-self-2 : goal.invariant_of-self-2
invariant_of-self-2 c =
    let a = c.self.inside in
    let v = c.in_ok-verdict.verdict in
    let told = c.in_ok-verdict.ensures in
    let monitor = c.append.new.self in
    stepped (machine_of a.monitor a.source a.schedule a.store a.tickets.items) (machine_of monitor a.source a.schedule a.store a.tickets.items)
    (Append c.args.event) (Says v) (vec_capacity a.tickets) c.self.invariant.now
    (appended_at_once a.monitor monitor a.source a.schedule a.store a.tickets.items c.args.event v told.well_formed told.appended told.verdict)

pub returns : goal.returns
returns c =
    let a = c.self.inside in
    let v = c.in_ok-verdict.verdict in
    let told = c.in_ok-verdict.ensures in
    let monitor = c.append.new.self in
    subst (λ (s : CoreView). MayCarryOut s.machine (Append c.args.event) (Ok (Says v)) (seen monitor a.source a.schedule a.store a.tickets.items Nothing)) c.self.view_is (
      machine_of monitor a.source a.schedule a.store a.tickets.items,
      appended_at_once a.monitor monitor a.source a.schedule a.store a.tickets.items c.args.event v told.well_formed told.appended told.verdict,
      refl,
    )
