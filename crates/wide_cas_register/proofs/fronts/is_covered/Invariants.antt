use Rattle.std.proofs.Common.{take}
use Rattle.std.specs.List.{Contains}
use Rattle.wide_cas_register.specs.declared.fronts.Front.{Front}
use Rattle.wide_cas_register.specs.Fronts.{IsLessBy}
use Rattle.wide_cas_register.proofs.fronts.is_covered.Given as goal

abbrev pub invariant-loop-other : goal.invariant-loop-other
invariant-loop-other l = (g : Front) → Contains (take l.other-index l.fronts) g → ¬ IsLessBy l.calls l.front g
