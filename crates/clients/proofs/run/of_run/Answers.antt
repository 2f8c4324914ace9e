use Rattle.std.proofs.Common.{subst}
use Rattle.clients.specs.Playing.{RefusesRun}
use Rattle.clients.proofs.Making.{heard}
use Rattle.clients.proofs.run.of_run.Goals as goal

pub returns-in_default-clause-none : goal.returns-in_default-clause-none
returns-in_default-clause-none c = λ none lost. heard c.in_ok-why.why c.in_default.not-HistoryFull c.in_default.not-TapeFull c.in_default.not-NoMemory (subst (λ w. RefusesRun w) c.in_ok-why.was lost)
