use Rattle.std.proofs.Common.{◌↔◌, ◌⊎◌, take}
use Rattle.std.specs.List.{Contains}
use Rattle.wide_cas_register.specs.declared.row.Found.{Found}
use Rattle.wide_cas_register.specs.Facts.{IsFoundBy}
use Rattle.wide_cas_register.proofs.row.find_value.Given as goal

abbrev pub invariant-loop-call : goal.invariant-loop-call
invariant-loop-call l = (f : Found) → Contains l.finds.items f
    ↔ (Contains l.initial.finds.items f ⊎ IsFoundBy (take l.call-index l.calls) l.gap l.value f)
