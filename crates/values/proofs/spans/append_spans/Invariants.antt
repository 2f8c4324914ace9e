use Rattle.std.proofs.Common.{◌≡◌, ◌++◌, take}
use Rattle.values.specs.Spans.{integers_in}
use Rattle.values.proofs.spans.append_spans.Given as goal

abbrev pub invariant-loop-at : goal.invariant-loop-at
invariant-loop-at l = l.items.items ≡ l.initial.items.items ++ integers_in (take l.at l.spans)
