-- So far the other set has what the numbers below this one stand for.
use Rattle.interner.specs.Numbers.{IsOnceIn}
use Rattle.events.specs.Events.{IsPrefixOf}
use Rattle.product_ends.proofs.Renumbering.{IsRenumberedTo}
use Rattle.product_ends.proofs.conversion.renumbered_set.Given as goal

abbrev pub invariant-loop-number : goal.invariant-loop-number
invariant-loop-number l = record {
  front : IsPrefixOf l.fn.new l.new;
  once : IsOnceIn l.fn.new → IsOnceIn l.new;
  numbers : IsRenumberedTo l.old l.new l.set l.other l.number;
}
