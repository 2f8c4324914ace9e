use Rattle.std.proofs.Common.{subst}
use Rattle.machine.specs.declared.command.Command.TheVariants.{Verdict as Ask}
use Rattle.machine.specs.declared.command.Reply.TheVariants.{Verdict as Says}
use Rattle.harness.specs.declared.change.Change.TheVariants.{Same}
use Rattle.harness.specs.CoreView.{CoreView, IsPrepared}
use Rattle.harness.proofs.Preparing.{seen, asked_for}
use Rattle.harness.proofs.core_object.Core.prepare_verdict.Goals as goal

pub returns : goal.returns
returns c =
    let a = c.self.inside in
    let v = c.verdict-verdict.result in
    subst (λ (s : CoreView). IsPrepared s.machine Ask (Says v, v) (seen a.monitor a.source a.schedule a.store a.tickets.items Same)) c.self.view_is
    (asked_for a.monitor a.source a.schedule a.store a.tickets.items v c.verdict-verdict.ensures)
