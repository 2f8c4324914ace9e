use Rattle.std.proofs.Common.{[], ◌∷◌, refl, inr, arith}
use Rattle.edn.specs.Bytes.IsAtom.{plain}
use Rattle.edn.specs.Text.SkipsLine.{at_end, over}
use Rattle.edn.specs.Text.SkipsGap.{no_gap, white, comment, discard}
use Rattle.edn.specs.Text.Reads.{atom, in_brackets}
use Rattle.edn.specs.Text.ReadsAll.{no_more, one_more}
use Rattle.edn.proofs.laws.discards_are_skipped.Goals as goal

pub returns : goal.returns
returns c =
    one_more (discard (white refl no_gap) (in_brackets (omega arith) (no_more no_gap)) (white refl no_gap))
    (atom (plain {ds = 49 ∷ []} (inr (omega arith, omega arith, tt)) (omega arith)) refl refl)
    (no_more (comment (over (λ e. omega arith) at_end) no_gap))
