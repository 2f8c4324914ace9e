use Rattle.std.proofs.Common.{take}
use Rattle.std.specs.List.{Contains}
use Rattle.wide_cas_register.specs.declared.row.Found.{Found}
use Rattle.wide_cas_register.proofs.left.has_finds.Given as goal

abbrev pub invariant-loop-found : goal.invariant-loop-found
invariant-loop-found l = (f : Found) → Contains (take l.found-index l.these) f → Contains l.those f
