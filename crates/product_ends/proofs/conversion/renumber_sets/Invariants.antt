-- So far the sets before this one are written.
use Rattle.interner.specs.Numbers.{IsOnceIn}
use Rattle.events.specs.Events.{IsPrefixOf}
use Rattle.product_ends.specs.Conversion.{AreRenumbered}
use Rattle.product_ends.proofs.conversion.renumber_sets.Given as goal

abbrev pub invariant-loop-set : goal.invariant-loop-set
invariant-loop-set l = record {
  front : IsPrefixOf l.fn.new l.new;
  once : IsOnceIn l.fn.new → IsOnceIn l.new;
  sets : AreRenumbered l.old l.new l.sets l.other.items l.set-index;
}
