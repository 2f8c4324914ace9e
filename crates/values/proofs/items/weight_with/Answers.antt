use Rattle.std.proofs.Common.{◌*◌, ◌%◌, ◌^◌, ℕ, sym, ap, ◌∙◌, add-one}
use Rattle.values.specs.Rolled.{power, ratio}
use Rattle.values.proofs.Rolling.{power-next}
use Rattle.values.proofs.items.weight_with.Goals as goal

pub returns : goal.returns
unfolding ratio
returns c many is = ap (λ (n : ℕ). (n * ratio) % 2 ^ 128) is ∙ sym (power-next many) ∙ ap power (sym (add-one many))
