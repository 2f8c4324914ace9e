use Rattle.std.proofs.Common.{take}
use Rattle.std.specs.List.{AllZip}
use Rattle.wide_cas_register.specs.Fronts.{IsFirstFront}
use Rattle.wide_cas_register.proofs.fronts.first_fronts.Given as goal

abbrev pub invariant-loop-row : goal.invariant-loop-row
invariant-loop-row l = AllZip IsFirstFront (take l.row-index l.rows) l.fronts.items
