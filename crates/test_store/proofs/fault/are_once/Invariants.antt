use Rattle.std.proofs.Common.{ℕ, map, take, Vec}
use Rattle.std.specs.List.{concat}
use Rattle.std.specs.declared.alloc.Global.{Global}
use Rattle.test_store.specs.Marked.{HasMarked}
use Rattle.test_store.proofs.fault.are_once.Given as goal

abbrev pub invariant-loop-group : goal.invariant-loop-group
invariant-loop-group l = HasMarked l.seen (concat (map (λ (v : Vec ℕ Global). v.items) (take l.group-index l.group-items)))
