use Rattle.std.proofs.Common.{⊎_elim, [], ◌∷◌, ◌++◌, sym, subst}
use Rattle.checkpoints.specs.KeyState.{IsKeyState}
use Rattle.checkpoints.proofs.Judging.{dead_after, over_after, is_alive, is_dead, is_over}
use Rattle.checkpoints.proofs.key_state.KeyState.prepare.Goals as goal

pub returns-in-Alive-clause-now : goal.returns-in-Alive-clause-now
returns-in-Alive-clause-now c kind budget events stands history =
    let h = is_alive kind budget events _ stands c.in-Alive.live c.in-Alive.is in
    (h.0, c.prepare.ensures.now kind budget events h.1 h.0 history)

pub returns-in-Alive-clause-next : goal.returns-in-Alive-clause-next
returns-in-Alive-clause-next c kind budget events stands history =
    let h = is_alive kind budget events _ stands c.in-Alive.live c.in-Alive.is in
    c.prepare.ensures.next kind budget events h.1 h.0 history

pub returns-in-Dead-clause-next : goal.returns-in-Dead-clause-next
returns-in-Dead-clause-next c kind budget events stands history =
    ⊎_elim
    (λ dead. subst (IsKeyState kind budget (events ++ (c.args.index, c.args.event.now) ∷ [])) (sym dead.1) (dead_after kind budget events _ history _ (is_dead kind budget events _ stands dead.0 dead.1)))
    (λ over. subst (IsKeyState kind budget (events ++ (c.args.index, c.args.event.now) ∷ [])) (sym over.1) (over_after kind budget events _ history _ (is_over kind budget events _ stands over.0 over.1)))
    c.in-Dead.is
