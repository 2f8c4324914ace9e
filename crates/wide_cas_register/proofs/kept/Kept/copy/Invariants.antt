use Rattle.std.proofs.Common.{take}
use Rattle.std.specs.List.{AllZip}
use Rattle.wide_cas_register.specs.Facts.{IsSame}
use Rattle.wide_cas_register.proofs.kept.Kept.copy.Given as goal

abbrev pub invariant-loop-row : goal.invariant-loop-row
invariant-loop-row l = AllZip IsSame (take l.row-index l.self.rows.items) l.rows.items
