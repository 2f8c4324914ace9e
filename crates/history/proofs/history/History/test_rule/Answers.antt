use Rattle.std.proofs.Common.{take}
use Rattle.history.proofs.Carrying.{may_invoke, may_not_invoke}
use Rattle.history.proofs.history.History.test_rule.Goals as goal

pub returns-in-Invoke-clause-ok : goal.returns-in-Invoke-clause-ok
returns-in-Invoke-clause-ok c =
    let inside = c.self.inside in
    rw (c.in-Invoke.is, ← c.self.view_is)
    (may_invoke c.may_invoke.result inside.concurrency (take inside.count inside.events.items) inside.clients.threads c.args.process c.args.op.now c.self.invariant.0.number c.self.invariant.0.stand c.may_invoke.ensures.ok)

pub returns-in-Invoke-clause-refused : goal.returns-in-Invoke-clause-refused
returns-in-Invoke-clause-refused c =
    let inside = c.self.inside in
    rw (c.in-Invoke.is, ← c.self.view_is)
    (may_not_invoke c.may_invoke.result inside.concurrency (take inside.count inside.events.items) inside.clients.threads c.args.process c.args.op.now c.self.invariant.0.number c.self.invariant.0.stand c.may_invoke.ensures.refused)
