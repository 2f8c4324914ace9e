use Rattle.std.proofs.Common.{⊎_elim, subst}
use Rattle.std.specs.List.{Contains}
use Rattle.linspec.proofs.Lists.{Contains-nil}
use Rattle.wide_register.proofs.gather.gather_few.Goals as goal

pub returns-clause-each : goal.returns-clause-each
returns-clause-each c r h = ⊎_elim
    (λ k. absurd (Contains-nil r (subst (λ l. Contains l r) c.new-left.ensures.items k)))
    (λ k. k)
    (c.in_ok-keep_all.ensures.each r h)
