use Rattle.std.proofs.Common.{refl, arith}
use Rattle.words.proofs.Digits.{read_next}
use Rattle.words.proofs.words.unpack_whole.Goals as goal

pub loop-place-preserved : goal.loop-place-preserved
loop-place-preserved c = read_next _ _ _ _ _ _ _ _ c.loop-place.invariant (omega arith) c.first_of.ensures refl
