use Rattle.std.proofs.Common.{◌≡◌, [], map, length, refl, subst, arith}
use Rattle.std.proofs.lemmas.List.{take_all, length-map}
use Rattle.moves.specs.KeptEnds.{end_kept}
use Rattle.moves.specs.EndSteps.{Along}
use Rattle.moves.specs.Tables.{IsThat, ShownWith, rows_of, with_rows}
use Rattle.words.specs.Puts.{IsPut}
use Rattle.interner.proofs.Lists.{has_place, mapped_at}
use Rattle.moves.proofs.Showing.{shown_after, shown_first, shown_none, widens_rows}
use Rattle.moves.proofs.table.refill.Goals as goal

pub loop-kept-init : goal.loop-kept-init
loop-kept-init g c included = shown_first c.args.calls.now _ IsThat (shown_none c.args.calls.now _ c.clear.ensures c.clear-2.ensures c.restart.ensures)

pub loop-kept-preserved : goal.loop-kept-preserved
loop-kept-preserved g c included =
    let here = mapped_at end_kept c.args.ends.now c.loop-kept.kept-index c.kept-item.result (omega arith) c.kept-item.is in
    shown_after c.args.calls.now c.loop-kept.table c.row_of.new.table (with_rows c.row_of.new.table c.put.new.self) IsThat (map end_kept c.args.ends.now) c.loop-kept.kept-index (end_kept c.kept-item.result) (end_kept c.kept-item.result) c.in_ok-row.row.items
    here (λ g q. q) (λ g q. q) c.in_ok-row.ensures.rows.widens c.in_ok-row.ensures.rows.rows (c.in_ok-row.ensures.shows (included (end_kept c.kept-item.result) (has_place (map end_kept c.args.ends.now) c.loop-kept.kept-index (end_kept c.kept-item.result) here)))
    (widens_rows c.row_of.new.table (with_rows c.row_of.new.table c.put.new.self) refl refl) (subst (λ r. IsPut r (rows_of c.row_of.new.table) (rows_of (with_rows c.row_of.new.table c.put.new.self))) c.deref.ensures.value c.in_ok-put.ensures.put) (c.loop-kept.invariant included)

pub returns : goal.returns
returns g c included =
    subst (λ l. ShownWith c.loop-kept.table c.args.calls.now [] (Along IsThat l)) (take_all c.loop-kept.kept-index (map end_kept c.args.ends.now) (let l : length (map (end_kept {S = g.row.M-State.Denot}) c.args.ends.now) ≡ length c.args.ends.now = length-map c.args.ends.now end_kept in omega (arith, l)))
    (c.loop-kept.invariant included)
