use Rattle.std.proofs.Common.{◌≡◌, ℕ, pos, refl, arith}
use Rattle.models.specs.declared.operation.Part.TheVariants.{Int}
use Rattle.history.specs.Examples.{write}
use Rattle.history.proofs.laws.refusals_in_order.Goals as goal

pub returns-clause-mismatch : goal.returns-clause-mismatch
returns-clause-mismatch c =
    ((tt, tt, omega arith), (0, write 3, refl, λ d. (let same : Int (pos 4) ≡ Int (pos 3) = d.2 in let numbers : ◌≡◌ {A = ℕ} 4 3 = cc in omega arith)))

pub returns-clause-completes : goal.returns-clause-completes
returns-clause-completes c = (tt, tt, omega arith, (0, write 3, refl, (refl, refl, refl)))
