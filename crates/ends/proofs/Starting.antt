-- ends that grow from others, which stand in another order
use Rattle.std.proofs.Common.{inr, ⊎_elim, List, [], refl, subst}
use Rattle.std.specs.List.{Contains}
use Rattle.models.specs.Objects.{Object}
use Rattle.linspec.specs.Ends.{End}
use Rattle.linspec.proofs.Lists.{Contains-nil}
use Rattle.moves.specs.declared.pending_op.PendingOp.{PendingOp}
use Rattle.moves.specs.EndSteps.{Adds, Along}
use Rattle.moves.specs.Tables.{IsThat}

module _ (o : Object) (calls : List PendingOp) (ends first : List (End o.State)) (adds : Adds (Along IsThat ends) [] first) where
  pub to : (e : End o.State) → Contains ends e → Contains first e
  to e h = (adds.each e).1 (inr (e, h, refl))

  pub back : (e : End o.State) → Contains first e → Contains ends e
  back e h = ⊎_elim (λ k. absurd (Contains-nil e k)) (λ s. subst (Contains ends) s.2 s.1) ((adds.each e).0 h)
