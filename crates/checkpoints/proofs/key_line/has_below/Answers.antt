use Rattle.std.proofs.Common.{◌≡◌, nat_lt, length, slice_index_or, ap, ◌∙◌, arith}
use Rattle.checkpoints.proofs.Cutting.{begins_first, length-places}
use Rattle.checkpoints.proofs.key_line.has_below.Goals as goal

pub returns-then-places-gt0 : goal.returns-then-places-gt0
returns-then-places-gt0 c events history are =
    let many : length c.args.places.now ≡ length events = ap length are ∙ length-places events in
    ap (λ l. nat_lt (slice_index_or l 0 0) c.args.n) are ∙ begins_first events history c.args.n 0 (omega (arith, c.if-places-gt0.true))
