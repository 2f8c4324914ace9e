use Rattle.std.proofs.Common.{◌≡◌, ◌≢◌, List, map, sym, ap, ◌∙◌, subst}
use Rattle.std.proofs.lemmas.Result.{IfOk-weaker}
use Rattle.history.specs.WellFormed.{IsHistoryOf}
use Rattle.linspec.specs.Orders.{Pairwise}
use Rattle.parallel_recheck.specs.Pieces.{PieceView}
use Rattle.monitor.specs.Rows.{nows, JoinsRows}
use Rattle.monitor.specs.Judged.{IsJudged}
use Rattle.monitor.specs.Loading.{with_all, pieces_of, row_of}
use Rattle.monitor.proofs.LoadedLines.{key_in, pieces_apart, loaded_judged}
use Rattle.monitor.proofs.loading.judged.Goals as goal

pub pieces_from-requires-clause-history : goal.pieces_from-requires-clause-history
pieces_from-requires-clause-history g c =
    (c.args.history.now.concurrency, subst (IsHistoryOf c.args.history.now.concurrency) (sym c.events.ensures) c.len-many.ensures.history)

pub joined-requires-clause-apart : goal.joined-requires-clause-apart
joined-requires-clause-apart g c =
    subst (λ (l : List PieceView). Pairwise (λ i j. i ≢ j) (map key_in l)) (sym (c.as_slice-pieces.ensures.value ∙ c.in_ok-grouped.ensures))
    (pieces_apart c.args.kind c.args.budget c.events.result.now)

pub returns : goal.returns
returns g c =
    let kind = c.args.kind in
    let budget = c.args.budget in
    let events = c.args.history.now.events in
    let c_ = c.args.history.now.concurrency in
    let are : c.as_slice-pieces.result.now ≡ pieces_of kind budget events = c.as_slice-pieces.ensures.value ∙ c.in_ok-grouped.ensures ∙ ap (pieces_of kind budget) c.events.ensures in
    IfOk-weaker c.joined.result
    (λ x. (nows x.0.rows ≡ map row_of c.as_slice-pieces.result.now) × JoinsRows (map row_of c.as_slice-pieces.result.now) x.1)
    (λ x. IsJudged (with_all c_ kind budget events) (nows x.0.rows) x.1)
    (λ x h. loaded_judged kind budget events c.judging_law.ensures c_ (nows x.0.rows) x.1 c.len-many.ensures.history (h.0 ∙ ap (map row_of) are) (subst (λ (l : List PieceView). JoinsRows (map row_of l) x.1) are h.1))
    c.joined.ensures
