use Rattle.std.proofs.Common.{◌≡◌, map, take}
use Rattle.std.specs.List.{filter}
use Rattle.wide_cas_register.specs.Facts.{crashed, outlives}
use Rattle.wide_cas_register.proofs.kept.calls_crashed.Given as goal

abbrev pub invariant-loop-call : goal.invariant-loop-call
invariant-loop-call l = l.left.items ≡ map (crashed l.id) (filter (outlives l.id) (take l.call-index l.calls))
