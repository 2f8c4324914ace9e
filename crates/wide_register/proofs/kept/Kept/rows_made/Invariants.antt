use Rattle.std.proofs.Common.{take}
use Rattle.wide_register.proofs.Gathering.{All, AllLeast, Each}
use Rattle.wide_register.proofs.kept.Kept.rows_made.Given as goal

abbrev pub invariant-loop-row : goal.invariant-loop-row
invariant-loop-row l = record {
  each : Each l.self l.moments l.effect (take l.row-index l.self.rows.items) l.made.items;
  all : All l.self l.moments l.effect (take l.row-index l.self.rows.items) l.made.items;
  least : AllLeast l.moments l.made.items;
}
