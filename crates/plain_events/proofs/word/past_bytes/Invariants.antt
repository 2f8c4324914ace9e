-- The bytes so far are before the rest.
use Rattle.std.proofs.Common.{◌≡◌, ◌++◌, take}
use Rattle.plain_events.proofs.word.past_bytes.Given as goal

abbrev pub invariant-loop-byte : goal.invariant-loop-byte
invariant-loop-byte l = l.text ≡ take l.byte-index l.bytes ++ l.rest
