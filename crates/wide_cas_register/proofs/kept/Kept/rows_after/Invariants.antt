use Rattle.std.proofs.Common.{[], take}
use Rattle.wide_cas_register.specs.Fronts.{AreGathered}
use Rattle.wide_cas_register.proofs.kept.Kept.rows_after.Given as goal

abbrev pub invariant-loop-row : goal.invariant-loop-row
invariant-loop-row l = AreGathered l.self l.effect l.later (take l.row-index l.self.rows.items) [] l.left.items

abbrev pub invariant-loop-front : goal.invariant-loop-front
invariant-loop-front l = AreGathered l.self l.effect l.later l.self.rows.items (take l.front-index l.fronts) l.left.items
