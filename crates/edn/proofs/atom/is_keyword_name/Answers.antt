use Rattle.std.proofs.Common.{◌≡◌, length, arith}
use Rattle.edn.proofs.Deciding.{none_here}
use Rattle.edn.proofs.Names.{whole_name, no_more_of_name, no_whole_name}
use Rattle.edn.proofs.atom.is_keyword_name.Goals as goal

pub returns-in-Some : goal.returns-in-Some
returns-in-Some c = (
  λ e. let n : length c.in-Some.rest.now ≡ 0 = grind arith in whole_name _ _ _ n c.in-Some.ensures.found,
  λ i. let n = no_more_of_name _ _ _ c.in-Some.ensures.found i in grind arith,
)

pub returns-in-None : goal.returns-in-None
returns-in-None c = none_here _ (λ i. no_whole_name _ c.in-None.ensures.none i)
