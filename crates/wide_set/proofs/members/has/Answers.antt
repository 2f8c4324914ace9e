use Rattle.std.proofs.Common.{◌↔◌, IsTrue, sym, subst}
use Rattle.std.specs.List.{Contains}
use Rattle.wide_set.proofs.Searching.{found_or_not}
use Rattle.wide_set.proofs.members.has.Goals as goal

pub returns : goal.returns
returns c = subst (λ b. IsTrue b ↔ Contains c.args.members.now c.args.value.now) (sym c.is_ok.ensures.value) (found_or_not c.args.value.now c.args.members.now c.binary_search.result c.requires c.binary_search.ensures.bound c.binary_search.ensures.position)
