use Rattle.std.proofs.Common.{subst, sym}
use Rattle.linspec.specs.Verdicts.{IsJoin}
use Rattle.locality.proofs.MoreStatuses.{IsJoin-over_illegal, IsJoin-over_later, IsJoin-over_earlier, IsJoin-over_legal}
use Rattle.locality.proofs.joining.with_over.Goals as goal

pub returns-in-Illegal : goal.returns-in-Illegal
returns-in-Illegal c statuses j =
    subst (IsJoin _) (sym c.in-Illegal.is) (IsJoin-over_illegal statuses c.args.key c.args.index _ _ (subst (IsJoin statuses) c.in-Illegal.is j))

pub returns-in-Legal : goal.returns-in-Legal
returns-in-Legal c statuses j = IsJoin-over_legal statuses c.args.key c.args.index (subst (IsJoin statuses) c.in-Legal.is j)

pub returns-then-is_sooner : goal.returns-then-is_sooner
returns-then-is_sooner c statuses j = IsJoin-over_earlier statuses c.args.key c.args.index _ _ (subst (IsJoin statuses) c.in-Unknown.is j) c.if-is_sooner.true

pub returns-else-is_sooner : goal.returns-else-is_sooner
returns-else-is_sooner c statuses j = IsJoin-over_later statuses c.args.key c.args.index _ _ (subst (IsJoin statuses) c.in-Unknown.is j) c.if-is_sooner.false
