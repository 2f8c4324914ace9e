use Rattle.events.proofs.ReadEach.{if_ascending}
use Rattle.events.proofs.collections.members_of.Goals as goal

pub returns : goal.returns
returns c = if_ascending c.args.integers.items c.of_unordered.result c.of_unordered.ensures.members c.of_unordered.ensures.ascending
