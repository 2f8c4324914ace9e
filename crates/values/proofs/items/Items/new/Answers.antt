use Rattle.std.proofs.Common.{length, sym, ap, ◌∙◌}
use Rattle.values.specs.Rolled.{power, rolled}
use Rattle.values.proofs.Rolling.{rolled-none, power-none}
use Rattle.values.proofs.items.Items.new.Goals as goal

pub invariant_of-result : goal.invariant_of-result
invariant_of-result c = record {
  sums = sym (ap rolled c.new.ensures ∙ rolled-none);
  weighs = sym (ap (λ l. power (length l)) c.new.ensures ∙ power-none);
}
