-- what compares equal at each place is the same list
use Rattle.std.proofs.Common.{◌≡◌, ℤ, Option, Some, None, refl, ap}
use Rattle.std.specs.Bool.{Decides}
use Rattle.std.specs.Option.{option_eq}
use Rattle.std.specs.Ordering.{int_eq}
use Rattle.std.specs.Cmp.Lexicographic.{pointwise_decides}
use Rattle.std.proofs.lemmas.Bool.Decides.{Decides-int_eq}
use Rattle.rules.proofs.laws.states_law.Goals as goal

values_Decide : (a b : Option ℤ) → Decides (option_eq int_eq a b) (a ≡ b)
values_Decide None None = (λ _. refl, λ _. refl)
values_Decide None (Some y) = (λ e. cc, λ e. cc)
values_Decide (Some x) None = (λ e. cc, λ e. cc)
values_Decide (Some x) (Some y) = (λ e. ap Some ((Decides-int_eq x y).0 e), λ e. (Decides-int_eq x y).1 (cc))

pub returns : goal.returns
returns c = λ s t e. (pointwise_decides values_Decide s t).0 e
