use Rattle.std.proofs.Common.{[], get_or, ap, ◌∙◌, arith}
use Rattle.std.specs.FinMap as finmap
use Rattle.std.specs.FinSet as finset
use Rattle.moves.specs.KeptEnds.{crashed_in, end_kept, pending_in}
use Rattle.moves.specs.Tables.{rows_of}
use Rattle.moves.proofs.Changes.{same_parts}
use Rattle.moves.proofs.Telling.{told_all, told_first}
use Rattle.moves.proofs.table.kept_of.Goals as goal

pub loop-at-init : goal.loop-at-init
loop-at-init g c once e shows =
    told_first c.args.calls.now e (end_kept {S = g.row.M-State.Denot} (record { state = c.in_ok-copy.field-0; pending = c.new.result; crashed = c.new-2.result }))
    (same_parts (end_kept {S = g.row.M-State.Denot} (record { state = c.in_ok-copy.field-0; pending = c.new.result; crashed = c.new-2.result }))
    (record { state = e.state; pending = finmap.empty; crashed = finset.empty })
    (c.in_ok-copy.ensures ∙ c.in-Some.ensures c.args.calls.now (get_or (rows_of c.args.table.now) c.args.row_at []) e c.number.ensures shows) (ap pending_in c.new.ensures.items) (ap crashed_in c.new-2.ensures.items))

pub returns : goal.returns
returns g c once e shows =
    told_all c.args.calls.now e (end_kept c.loop-at.kept) c.loop-at.at (c.loop-at.invariant once e shows) (omega arith) shows.included
