use Rattle.std.proofs.Common.{◌≡◌, ◌+◌, ◌++◌, length, take}
use Rattle.persistent.specs.declared.few.TheConstants.{IN_PLACE}
use Rattle.persistent.proofs.few.put.Given as goal

abbrev pub invariant-loop-k : goal.invariant-loop-k
invariant-loop-k g l = record {
  long : length l.places ≡ IN_PLACE;
  same : take (l.at + l.k) l.places ≡ take l.at l.initial.places ++ take l.k l.values;
}
