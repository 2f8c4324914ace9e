use Rattle.std.proofs.Common.{inl, inr, refl}
use Rattle.wide_register.proofs.next.effect_of_ok.Goals as goal

pub returns-in-None : goal.returns-in-None
returns-in-None c = inr (inr (inr (refl, inl (c.in-None.ensures.none refl))))
