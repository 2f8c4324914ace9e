use Rattle.std.proofs.Common.{pos, subst}
use Rattle.std.specs.List.{Contains}
use Rattle.std.proofs.lemmas.List.Elements.{Contains-get_or}
use Rattle.wide_set.proofs.members.is_at.Goals as goal

pub returns-then-at-members-clause-there : goal.returns-then-at-members-clause-there
returns-then-at-members-clause-there c t = subst (Contains c.args.members.now) (c.is_same.ensures.0 t) (Contains-get_or c.args.members.now c.args.at (pos 0) c.if-at-members.true)
