use Rattle.std.proofs.Common.{[], ◌∷◌, ◌++◌, sym, subst}
use Rattle.linspec.specs.declared.verdict.KeyStatus.{KeyStatus}
use Rattle.linspec.specs.Verdicts.{IsJoin}
use Rattle.locality.proofs.MoreStatuses.{IsJoin-alive}
use Rattle.locality.proofs.joining.join_with.Goals as goal

pub returns-in-Alive : goal.returns-in-Alive
returns-in-Alive c statuses j = subst (λ (s : KeyStatus). IsJoin (statuses ++ (c.args.key, s) ∷ []) c.args.verdict) (sym c.in-Alive.is) (IsJoin-alive statuses c.args.key c.args.verdict j)

pub returns-in-Dead : goal.returns-in-Dead
returns-in-Dead c statuses j = subst (λ (s : KeyStatus). IsJoin (statuses ++ (c.args.key, s) ∷ []) c.with_dead.result) (sym c.in-Dead.is) (c.with_dead.ensures statuses j)

pub returns-in-Over : goal.returns-in-Over
returns-in-Over c statuses j = subst (λ (s : KeyStatus). IsJoin (statuses ++ (c.args.key, s) ∷ []) c.with_over.result) (sym c.in-Over.is) (c.with_over.ensures statuses j)
