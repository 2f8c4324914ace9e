use Rattle.std.proofs.Common.{subst, ⊎_elim}
use Rattle.linspec.specs.Verdicts.{IsJoin}
use Rattle.locality.proofs.MoreStatuses.{IsJoin-dead_later, IsJoin-dead_earlier, IsJoin-dead_legal, IsJoin-dead_unknown}
use Rattle.locality.proofs.joining.with_dead.Goals as goal

pub returns-in-Legal : goal.returns-in-Legal
returns-in-Legal c statuses j =
    ⊎_elim
    (λ e. IsJoin-dead_legal statuses c.args.key c.args.index (subst (IsJoin statuses) e j))
    (λ e. IsJoin-dead_unknown statuses c.args.key c.args.index e.0 e.1 (subst (IsJoin statuses) e.2 j))
    c.in-Legal.is

pub returns-then-is_sooner : goal.returns-then-is_sooner
returns-then-is_sooner c statuses j = IsJoin-dead_earlier statuses c.args.key c.args.index _ _ (subst (IsJoin statuses) c.in-Illegal.is j) c.if-is_sooner.true

pub returns-else-is_sooner : goal.returns-else-is_sooner
returns-else-is_sooner c statuses j = IsJoin-dead_later statuses c.args.key c.args.index _ _ (subst (IsJoin statuses) c.in-Illegal.is j) c.if-is_sooner.false
