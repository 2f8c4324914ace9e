use Rattle.std.proofs.Common.{ℕ}
use Rattle.std.specs.List.{Contains}
use Rattle.wide_register.specs.Facts.{IsOpenIn}
use Rattle.wide_register.proofs.gather.tellers.Given as goal

abbrev pub invariant-loop-call : goal.invariant-loop-call
invariant-loop-call l = (i : ℕ) → Contains l.ids.items i → IsOpenIn l.calls i
