use Rattle.std.proofs.Common.{◌≡◌, take}
use Rattle.edn.specs.Digest.{digest_bytes}
use Rattle.edn.proofs.digest.with_bytes.Given as goal

abbrev pub invariant-loop-byte : goal.invariant-loop-byte
invariant-loop-byte l = l.told ≡ digest_bytes l.number (take l.byte-index l.bytes)
