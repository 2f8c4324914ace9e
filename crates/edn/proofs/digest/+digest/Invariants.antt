use Rattle.std.proofs.Common.{◌≡◌, ◌+◌, ◌*◌, take}
use Rattle.edn.specs.Digest.{digest_in_order, digest_members, digest_pairs}
use Rattle.edn.specs.View.{values_of, entries_of}
use Rattle.edn.proofs.digest.+digest.Given as goal

abbrev pub decreases-digest : goal.decreases-digest
decreases-digest l = 4 * goal.size-digest l

abbrev pub decreases-digest_in_order : goal.decreases-digest_in_order
decreases-digest_in_order l = 4 * goal.size-digest_in_order l + 1

abbrev pub decreases-digest_members : goal.decreases-digest_members
decreases-digest_members l = 4 * goal.size-digest_members l + 1

abbrev pub decreases-digest_pairs : goal.decreases-digest_pairs
decreases-digest_pairs l = 4 * goal.size-digest_pairs l + 2

abbrev pub decreases-digest_pair : goal.decreases-digest_pair
decreases-digest_pair l = 4 * goal.size-digest_pair l + 1

abbrev pub invariant-digest_in_order-loop-element : goal.invariant-digest_in_order-loop-element
invariant-digest_in_order-loop-element l = l.told ≡ digest_in_order 6 (values_of (take l.element-index l.elements))

abbrev pub invariant-digest_members-loop-element : goal.invariant-digest_members-loop-element
invariant-digest_members-loop-element l = l.sum ≡ digest_members (values_of (take l.element-index l.elements))

abbrev pub invariant-digest_pairs-loop-pair : goal.invariant-digest_pairs-loop-pair
invariant-digest_pairs-loop-pair l = l.sum ≡ digest_pairs (entries_of (take l.pair-index l.pairs))
