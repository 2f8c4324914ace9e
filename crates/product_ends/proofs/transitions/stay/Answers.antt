use Rattle.products.proofs.Numbers.{has_nothing}
use Rattle.product_ends.proofs.transitions.stay.Goals as goal

pub returns-in_default : goal.returns-in_default
returns-in_default c slot has = absurd (has_nothing slot has)

pub returns-in_default-2 : goal.returns-in_default-2
returns-in_default-2 c slot has = absurd (has_nothing slot has)
