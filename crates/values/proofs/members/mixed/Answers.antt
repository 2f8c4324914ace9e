use Rattle.std.proofs.Common.{ap, ◌∙◌, of_z, w64}
use Rattle.std.proofs.lemmas.Int.{to_z-of_z}
use Rattle.values.specs.Sums.{folded, mixed, product, spread, turned}
use Rattle.values.proofs.members.mixed.Goals as goal

pub returns : goal.returns
unfolding mixed spread product turned folded
returns c = ap spread (c.cast_unsigned.ensures ∙ ap (of_z w64) (to_z-of_z w64 c.args.value c.ranges.value))
