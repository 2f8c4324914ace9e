use Rattle.std.proofs.Common.{subst}
use Rattle.values.specs.Multisets.{NeverFalls}
use Rattle.values.proofs.multiset.Multiset.len.Goals as goal

pub returns-clause-never_falls : goal.returns-clause-never_falls
returns-clause-never_falls c = subst NeverFalls c.self.view_is c.self.invariant.never_falls
