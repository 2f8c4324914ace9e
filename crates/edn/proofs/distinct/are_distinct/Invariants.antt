use Rattle.std.proofs.Common.{take}
use Rattle.edn.specs.Value.{AreDistinct}
use Rattle.edn.specs.Digest.{HasDigests}
use Rattle.edn.proofs.Repeats.{keys_in}
use Rattle.edn.proofs.Scalars.{Holds}
use Rattle.edn.proofs.distinct.are_distinct.Given as goal

abbrev pub invariant-loop-i : goal.invariant-loop-i
invariant-loop-i g l = record {
  distinct : AreDistinct (keys_in g.T.Keyed.key_value (take l.i l.items));
  told : HasDigests l.digests (keys_in g.T.Keyed.key_value (take l.i l.items));
  held : Holds l.scalars (keys_in g.T.Keyed.key_value (take l.i l.items));
}
