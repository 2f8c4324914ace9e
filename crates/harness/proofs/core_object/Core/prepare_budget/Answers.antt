use Rattle.std.proofs.Common.{subst}
use Rattle.std.specs.Vec.{vec_capacity}
use Rattle.machine.specs.declared.command.Command.TheVariants.{SetBudget}
use Rattle.machine.specs.declared.command.Reply.TheVariants.{Verdict as Says}
use Rattle.harness.specs.declared.change.Change.TheVariants.{Judged}
use Rattle.harness.specs.CoreView.{CoreView, IsPrepared}
use Rattle.harness.specs.SoundCore.{machine_of}
use Rattle.harness.proofs.Preparing.{seen, readied, budget_set}
use Rattle.harness.proofs.core_object.Core.prepare_budget.Goals as goal

pub invariant_of-self-2 : goal.invariant_of-self-2
invariant_of-self-2 c =
    let a = c.self.inside in
    let v = c.in_ok-verdict.verdict in
    let told = c.in_ok-verdict.ensures in
    let monitor = c.prepare_budget.new.self in
    readied (machine_of a.monitor a.source a.schedule a.store a.tickets.items) (seen monitor a.source a.schedule a.store a.tickets.items Judged)
    (SetBudget c.args.key c.args.n) (Says v, v) (vec_capacity a.tickets) Judged c.self.invariant.now
    (budget_set a.monitor monitor a.source a.schedule a.store a.tickets.items c.args.key c.args.n _ v told.within told.prepared told.verdict) tt

pub returns : goal.returns
returns c =
    let a = c.self.inside in
    let v = c.in_ok-verdict.verdict in
    let told = c.in_ok-verdict.ensures in
    let monitor = c.prepare_budget.new.self in
    subst (λ (s : CoreView). IsPrepared s.machine (SetBudget c.args.key c.args.n) (Says v, v) (seen monitor a.source a.schedule a.store a.tickets.items Judged)) c.self.view_is
    (budget_set a.monitor monitor a.source a.schedule a.store a.tickets.items c.args.key c.args.n _ v told.within told.prepared told.verdict)
