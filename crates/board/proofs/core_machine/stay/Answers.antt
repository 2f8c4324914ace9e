use Rattle.std.proofs.Common.{Some, ap, subst, ◌∙◌}
use Rattle.harness.specs.CoreView.{CoreView}
use Rattle.board.specs.CoreTape.{IsVerdictOf}
use Rattle.board.proofs.CoreTruth.{asks_same}
use Rattle.board.proofs.core_machine.stay.Goals as goal

pub returns-clause-same : goal.returns-clause-same
returns-clause-same c = ap (λ (s : CoreView). s.machine) c.in-Ok.ensures.answered.3

pub returns-clause-ready : goal.returns-clause-ready
returns-clause-ready c =
    let a = c.in-Ok.ensures.answered in
    ap (λ (s : CoreView). s.next) a.3 ∙ ap Some (asks_same c.args.core.now.machine c.in-Ok._reply a.0 a.1)

pub returns-clause-verdict : goal.returns-clause-verdict
returns-clause-verdict c =
    let a = c.in-Ok.ensures.answered in
    subst (λ m. IsVerdictOf m c.in-Ok.verdict) (asks_same c.args.core.now.machine c.in-Ok._reply a.0 a.1) a.2
