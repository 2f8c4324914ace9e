use Rattle.std.proofs.Common.{◌≡◌, ◌-◌, nat_le, length, slice_index_or, ap, ◌∙◌, arith}
use Rattle.checkpoints.proofs.Cutting.{loses_last, length-places}
use Rattle.checkpoints.proofs.key_line.has_from.Goals as goal

pub returns-then-count-gt0 : goal.returns-then-count-gt0
returns-then-count-gt0 c events history are =
    let last = length c.args.places.now - 1 in
    let many : length c.args.places.now ≡ length events = ap length are ∙ length-places events in
    ap (λ l. nat_le c.args.n (slice_index_or l last 0)) are ∙ loses_last events history c.args.n last 0 (omega (arith, c.if-count-gt0.true))
