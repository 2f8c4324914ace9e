use Rattle.std.proofs.Common.{length}
use Rattle.values.proofs.Joining.{part_apart}
use Rattle.values.proofs.spans.room_for.Goals as goal

pub room_of-requires : goal.room_of-requires
room_of-requires c =
    let part = c.part_at-part.result.now in
    part_apart c.args.spans.now part c.parts.at (length part) c.requires c.part_at-part.ensures.part
