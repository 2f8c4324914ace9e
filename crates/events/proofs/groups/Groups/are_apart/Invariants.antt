use Rattle.std.proofs.Common.{ℕ, map, take, Vec}
use Rattle.std.specs.List.{concat}
use Rattle.std.specs.declared.alloc.Global.{Global}
use Rattle.events.specs.Replicas.{HasSeen}
use Rattle.events.proofs.groups.Groups.are_apart.Given as goal

abbrev pub invariant-loop-group : goal.invariant-loop-group
invariant-loop-group l = HasSeen l.seen (concat (map (λ (v : Vec ℕ Global). v.items) (take l.group-index l.group-items)))
