use Rattle.std.proofs.Common.{◌≡◌, subst, sym, rules}
use Rattle.edn.specs.declared.refusal.Refusal.TheVariants.{Idle}
use Rattle.clients.specs.Plays.{IsOfRun}
use Rattle.clients.specs.Playing.{RefusesRun}
use Rattle.clients.proofs.Making.{struck_well, struck_in_vain, struck_none}
use Rattle.clients.proofs.striking.try_once.Goals as goal
use Rattle.clients.proofs.striking.try_once.Goals.{in-Ok, in-Err-Idle, in-Err}

pub returns : goal.returns
returns g c fine =
    elim c.match-tried.branch [
      | in-Ok w ↦ rw w.seat-is (struck_well _ _ _ _ w.in-Ok.is c.call-tried.ensures)
      | in-Err-Idle w ↦
          (let idle : w.in-Err-Idle.field-0 ≡ Idle = search rules in
          rw w.seat-is (struck_none _ _ _ (struck_in_vain _ _ _ w.in-Err-Idle.field-0 w.in-Err-Idle.is (subst (λ why. ¬ IsOfRun why) (sym idle) (λ lost. lost)) c.call-tried.ensures) w.let_others_call.ensures))
      | in-Err w ↦ rw w.seat-is (struck_in_vain _ _ _ w.in-Err.why w.in-Err.is (subst (λ o. ¬ RefusesRun o) w.result-is fine) c.call-tried.ensures)
    ]
