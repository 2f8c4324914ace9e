use Rattle.std.proofs.Common.{subst, sym, rules}
use Rattle.clients.specs.Playing.{RefusesRun}
use Rattle.clients.proofs.Making.{spares, struck_self, struck_then, struck_none}
use Rattle.clients.proofs.striking.strike.Goals as goal

pub loop-init : goal.loop-init
loop-init g c = (struck_self _, tt, tt)

pub loop-preserved : goal.loop-preserved
loop-preserved g c =
    let fine = spares c.try_once.result (search rules) in
    (struck_none _ _ _ (struck_then _ _ _ c.loop.invariant.0 (c.try_once.ensures fine)) c.tell.ensures, search rules, search rules)

pub returns-in-Some-try_once : goal.returns-in-Some-try_once
returns-in-Some-try_once g c = λ fine.
    struck_then _ _ _ c.loop.invariant.0 (c.try_once.ensures (subst (λ o. ¬ RefusesRun o) (sym c.in-Some-try_once.is) fine))
