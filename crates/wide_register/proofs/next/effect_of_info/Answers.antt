use Rattle.std.proofs.Common.{inl, inr, refl}
use Rattle.wide_register.proofs.next.effect_of_info.Goals as goal

pub returns-in-None : goal.returns-in-None
returns-in-None c = inr (inl (c.in-None.ensures.none refl), refl)
