use Rattle.std.proofs.Common.{◌^◌, length}
use Rattle.words.proofs.Digits.{AreRead}
use Rattle.words.proofs.words.unpack_whole.Given as goal

abbrev pub invariant-loop-place : goal.invariant-loop-place
invariant-loop-place l = AreRead (2 ^ l.bits) l.word (length l.initial.row) l.place l.rest l.row
