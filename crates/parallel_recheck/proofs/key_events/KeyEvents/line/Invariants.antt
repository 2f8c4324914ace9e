use Rattle.std.proofs.Common.{◌≡◌, take}
use Rattle.checkpoints.specs.KeyLineView.{at_rest, count_on}
use Rattle.parallel_recheck.proofs.key_events.KeyEvents.line.Given as goal

abbrev pub invariant-loop-index : goal.invariant-loop-index
invariant-loop-index l = record {
  stands : l.line ≡ at_rest (record {
    kind = l.fn.self.judged.kind;
    budget = l.fn.self.judged.budget;
    events = take l.index-index l.fn.self.judged.events;
  }) (count_on 0 l.index-index);
}
