use Rattle.std.proofs.Common.{bit_and, ap, ◌∙◌, refl, arith}
use Rattle.std.proofs.lemmas.Nat.{and_mask}
use Rattle.words.proofs.Digits.{read_next}
use Rattle.words.proofs.words.unpack_half.Goals as goal

pub loop-place-preserved : goal.loop-place-preserved
loop-place-preserved c =
    read_next _ _ _ _ _ _ _ _ c.loop-place.invariant (omega arith) (ap (bit_and c.loop-place.rest) c.largest_of-largest.ensures ∙ and_mask c.loop-place.rest c.args.bits) refl
