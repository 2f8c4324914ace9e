use Rattle.std.proofs.Common.{◌≡◌, take}
use Rattle.monitor.specs.Loading.{rows_of_pieces}
use Rattle.monitor.proofs.pieces.pieces_from.Given as goal

abbrev pub invariant-loop-index : goal.invariant-loop-index
invariant-loop-index l = record {
  grouped : l.pieces.map.entries ≡ rows_of_pieces l.fn.kind l.fn.budget (take l.index l.fn.events);
}
