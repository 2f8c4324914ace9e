use Rattle.std.proofs.Common.{◌∙◌, sym, ap}
use Rattle.values.specs.Sums.{members_in, sum_of}
use Rattle.values.proofs.Sums.{sum_of-none}
use Rattle.values.proofs.members.Members.sum.Goals as goal

pub returns-in-None : goal.returns-in-None
returns-in-None c = sym sum_of-none ∙ ap sum_of (ap members_in (sym c.in-None.is) ∙ c.self.view_is)
