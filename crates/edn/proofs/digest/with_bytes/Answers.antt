use Rattle.std.proofs.Common.{ℕ, ◌+◌, ◌%◌, ◌^◌, ap, ◌∙◌}
use Rattle.edn.specs.Digest.{stirred}
use Rattle.edn.proofs.Digests.{bytes_more}
use Rattle.edn.proofs.digest.with_bytes.Goals as goal

pub loop-byte-preserved : goal.loop-byte-preserved
loop-byte-preserved c =
    c.with-told.ensures ∙ ap (λ (n : ℕ). stirred ((n + c.from.result) % 2 ^ 64)) c.loop-byte.invariant
    ∙ bytes_more c.args.number c.args.bytes.now c.loop-byte.byte-index c.from.result c.loop-byte-test.true c.from.ensures
