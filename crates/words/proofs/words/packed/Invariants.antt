use Rattle.std.proofs.Common.{◌≡◌, ◌-◌, ◌^◌, drop, length}
use Rattle.std.proofs.lemmas.Nat.{pow_pos}
use Rattle.words.specs.Words.{value}
use Rattle.words.proofs.Digits.{AreBelow}
use Rattle.words.proofs.words.packed.Given as goal

abbrev pub invariant-loop-at : goal.invariant-loop-at
invariant-loop-at l =
    record {
      base : l.base ≡ 2 ^ l.bits;
      word : l.word ≡ value (2 ^ l.bits) (drop (length l.row - l.at) l.row);
      below : AreBelow (2 ^ l.bits) (pow_pos l.bits) (drop (length l.row - l.at) l.row);
    }
