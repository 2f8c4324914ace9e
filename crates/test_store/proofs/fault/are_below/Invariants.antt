use Rattle.std.proofs.Common.{◌≡◌, ℕ, drop, map, Vec}
use Rattle.std.specs.List.{concat}
use Rattle.std.specs.declared.alloc.Global.{Global}
use Rattle.test_store.specs.Store.{are_below}
use Rattle.test_store.proofs.fault.are_below.Given as goal

abbrev pub invariant-loop-group : goal.invariant-loop-group
invariant-loop-group l =
    are_below l.n (concat (map (λ (v : Vec ℕ Global). v.items) (drop l.group-index l.group-items))) ≡ are_below l.n (concat (map (λ (v : Vec ℕ Global). v.items) l.group-items))
