use Rattle.std.proofs.Common.{subst}
use Rattle.linspec.specs.JudgedHistory.{IsVerdictOn}
use Rattle.harness.specs.CoreView.{CoreView}
use Rattle.harness.proofs.core_object.Core.verdict.Goals as goal

pub returns : goal.returns
returns c = subst (λ (s : CoreView). IsVerdictOn s.machine.judged c.verdict.result) c.self.view_is c.verdict.ensures
