use Rattle.std.proofs.Common.{◌+◌, ◌≤◌, List, ◌++◌, length, drop}
use Rattle.witness.specs.declared.calls.Call.{Call}
use Rattle.witness.specs.Requirements.{IsRequirement}
use Rattle.witness.proofs.queue.requirement_before_all.Given as goal

abbrev pub invariant-loop-at : goal.invariant-loop-at
invariant-loop-at l = record {
  ahead : (later : List Call) → IsRequirement later l.fn.after → IsRequirement (drop l.at l.calls ++ later) l.requirement;
  more : l.requirement.more + l.at ≤ l.fn.after.more + length l.calls;
}
