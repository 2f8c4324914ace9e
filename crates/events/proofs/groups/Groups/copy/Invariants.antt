use Rattle.std.proofs.Common.{◌≡◌, ℕ, map, take, Vec}
use Rattle.std.specs.declared.alloc.Global.{Global}
use Rattle.events.proofs.groups.Groups.copy.Given as goal

abbrev pub invariant-loop-group : goal.invariant-loop-group
invariant-loop-group l =
    map (λ (v : Vec ℕ Global). v.items) l.groups.items ≡ map (λ (v : Vec ℕ Global). v.items) (take l.group-index l.group-items)
