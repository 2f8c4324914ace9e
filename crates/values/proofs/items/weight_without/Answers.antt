use Rattle.std.proofs.Common.{◌*◌, ◌%◌, ◌^◌, ℕ, ap, ◌∙◌, add-one}
use Rattle.values.specs.Rolled.{back, power}
use Rattle.values.proofs.Rolling.{power-before}
use Rattle.values.proofs.items.weight_without.Goals as goal

pub returns : goal.returns
unfolding back
returns c many is = ap (λ (n : ℕ). (n * back) % 2 ^ 128) (is ∙ ap power (add-one many)) ∙ power-before many
