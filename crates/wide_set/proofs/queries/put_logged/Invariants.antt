use Rattle.std.proofs.Common.{◌↔◌, ℤ, ◌⊎◌, take}
use Rattle.std.specs.List.{Contains}
use Rattle.wide_set.specs.Queries.{HasTimelyLogged}
use Rattle.wide_set.proofs.queries.put_logged.Given as goal

abbrev pub invariant-loop-added : goal.invariant-loop-added
invariant-loop-added l = (v : ℤ) → Contains l.values.items v ↔ (Contains l.initial.values.items v ⊎ HasTimelyLogged (take l.added-index l.log) l.limit v)
