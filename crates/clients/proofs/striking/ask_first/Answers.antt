use Rattle.std.proofs.Common.{subst}
use Rattle.clients.specs.Playing.{RefusesRun}
use Rattle.clients.proofs.Making.{asked_once}
use Rattle.clients.proofs.striking.ask_first.Goals as goal

pub returns : goal.returns
returns g c = λ fine. asked_once _ _ c.call.result (subst (λ o. ¬ RefusesRun o) c.err.ensures.value fine) c.call.ensures
