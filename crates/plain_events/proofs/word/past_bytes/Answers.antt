use Rattle.std.proofs.Common.{◌≡◌, ◌∷◌, get_or, arith}
use Rattle.plain_events.proofs.Words.{bytes_more, bytes_all}
use Rattle.plain_events.proofs.word.past_bytes.Goals as goal

pub loop-byte-preserved : goal.loop-byte-preserved
loop-byte-preserved c =
    let rest : c.loop-byte.rest.now ≡ c.in_ok-first.first.now ∷ c.in_ok-first.behind.now = grind arith in
    let at : get_or c.args.bytes.now c.loop-byte.byte-index 0 ≡ c.in_ok-first.first.now = grind arith in
    bytes_more c.args.text.now c.args.bytes.now c.loop-byte.rest.now c.in_ok-first.behind.now c.loop-byte.byte-index c.in_ok-first.first.now c.loop-byte-test.true at c.loop-byte.invariant rest

pub returns : goal.returns
returns c = bytes_all c.args.text.now c.args.bytes.now c.loop-byte.rest.now c.loop-byte.byte-index c.loop-byte-test.false c.loop-byte.invariant
