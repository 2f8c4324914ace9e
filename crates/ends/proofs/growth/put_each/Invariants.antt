use Rattle.std.proofs.Common.{◌≡◌, ◌<◌, ℕ, List, [], length, get_or, take}
use Rattle.std.specs.List.{Contains}
use Rattle.events.specs.Events.{IsPrefixOf}
use Rattle.linspec.specs.Ends.{End}
use Rattle.moves.specs.declared.pending_op.PendingOp.{PendingOp}
use Rattle.moves.specs.EndSteps.{Along}
use Rattle.moves.specs.Tables.{AreShown, Shows, ShownWith, row_led, rows_of}
use Rattle.ends.proofs.growth.put_each.Given as goal

abbrev pub invariant-loop-at : goal.invariant-loop-at
invariant-loop-at g l =
    record {
      states : l.table.states ≡ l.initial.table.states;
      founds : l.table.founds ≡ l.initial.table.founds;
      front : IsPrefixOf (rows_of l.initial.table) (rows_of l.table);
      here : get_or (rows_of l.table) l.from [] ≡ get_or (rows_of l.initial.table) l.from [];
      within : l.from < length (rows_of l.table);
      puts : (calls : List PendingOp) (ends : List (End g.row.S.Denot)) → AreShown l.initial.table calls ends
          → ((to : ℕ × ℕ) → Contains l.targets to → (f : End g.row.S.Denot) × Shows l.initial.table calls (row_led (get_or (rows_of l.initial.table) l.from []) l.place to) f)
          → ShownWith l.table calls ends (Along (λ to f. Shows l.initial.table calls (row_led (get_or (rows_of l.initial.table) l.from []) l.place to) f) (take l.at l.targets));
    }
