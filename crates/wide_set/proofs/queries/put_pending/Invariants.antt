use Rattle.std.proofs.Common.{◌↔◌, ℤ, ◌⊎◌, take}
use Rattle.std.specs.List.{Contains}
use Rattle.wide_set.specs.Queries.{HasTimelyPending}
use Rattle.wide_set.proofs.queries.put_pending.Given as goal

abbrev pub invariant-loop-call : goal.invariant-loop-call
invariant-loop-call l = (v : ℤ) → Contains l.values.items v ↔ (Contains l.initial.values.items v ⊎ HasTimelyPending (take l.call-index l.pending) l.but l.limit v)
