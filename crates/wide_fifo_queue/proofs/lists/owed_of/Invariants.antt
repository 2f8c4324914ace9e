use Rattle.std.proofs.Common.{◌≢◌, take}
use Rattle.std.specs.List.{Contains}
use Rattle.wide_fifo_queue.specs.declared.known.Owed.{Owed}
use Rattle.wide_fifo_queue.proofs.lists.owed_of.Given as goal

abbrev pub invariant-loop-due : goal.invariant-loop-due
invariant-loop-due l = (x : Owed) → Contains (take l.due-index l.owed) x → x.value ≢ l.value
