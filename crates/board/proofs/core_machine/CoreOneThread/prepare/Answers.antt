use Rattle.std.proofs.Common.{Err, ap, ◌∙◌}
use Rattle.harness.specs.CoreView.{CoreView}
use Rattle.board.proofs.CoreTruth.{refused_ready, wants}
use Rattle.board.proofs.core_machine.CoreOneThread.prepare.Goals as goal

pub returns-in-Ok-clause-same : goal.returns-in-Ok-clause-same
returns-in-Ok-clause-same c = ap (λ (s : CoreView). s.machine) c.in-Ok.ensures.answered.3

pub returns-in-Ok-clause-ready : goal.returns-in-Ok-clause-ready
returns-in-Ok-clause-ready c =
    let a = c.in-Ok.ensures.answered in
    (a.0, a.1, ap (λ (s : CoreView). s.next) a.3, a.2)

pub returns-in-Err-clause-same : goal.returns-in-Err-clause-same
returns-in-Err-clause-same c = c.refuse.ensures.same ∙ ap (λ (s : CoreView). s.machine) c.in-Err.ensures.err

pub returns-in-Err-clause-ready : goal.returns-in-Err-clause-ready
returns-in-Err-clause-ready c =
    refused_ready c.args.self.now.machine c.prepare.new.self.machine c.refuse.new.core.next c.args.command c.in-Err.why c.refuse.result
    (ap (λ (s : CoreView). s.machine) c.in-Err.ensures.err) c.in-Err.ensures.refused c.refuse.ensures.entry c.refuse.ensures.ready

pub returns-in-Err-clause-memory : goal.returns-in-Err-clause-memory
returns-in-Err-clause-memory c =
    wants c.refuse.result c.in-Err.why c.args.self.now.machine c.args.command c.refuse.ensures.memory
    (λ same. c.in-Err.ensures.memory_last (ap Err same))
