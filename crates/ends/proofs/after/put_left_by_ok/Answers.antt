use Rattle.std.proofs.Common.{◌+◌, Bool, List, [], length, subst}
use Rattle.std.specs.List.{filter}
use Rattle.std.proofs.lemmas.Result.{on_ok_weaker}
use Rattle.rows.specs.RowSets.{PutsMarked}
use Rattle.moves.specs.EndSteps.{is_other}
use Rattle.moves.proofs.Adding.{IsPrefixOf-itself}
use Rattle.ends.proofs.Marking.{left_settled}
use Rattle.ends.proofs.Settling.{none_settles}
use Rattle.moves.proofs.Showing.{shown_no_rows}
use Rattle.ends.proofs.after.put_left_by_ok.Goals as goal

pub returns-in_ok-mark_fitting-in-Some : goal.returns-in_ok-mark_fitting-in-Some
returns-in_ok-mark_fitting-in-Some g c once ends shown =
    on_ok_weaker c.put_marked.result
    (λ puts.
    left_settled c.args.table.now c.args.returning.now.calls.now once c.in-Some.call c.args.returning.now.id c.in-Some.ensures.there ends shown c.args.returning.now.answer.now c.mark_fitting.new.marks.items
    c.in_ok-mark_fitting-in-Some.ensures c.restart_like.new.self c.put_marked.new.self c.restart_like.ensures
    (subst (λ (marks : List Bool). PutsMarked (c.in-Some.call + 1) marks c.args.table.now.rows (length c.args.table.now.rows) c.restart_like.new.self c.put_marked.new.self)
    c.deref.ensures.value puts))
    c.put_marked.ensures

pub returns-in-None : goal.returns-in-None
returns-in-None g c once ends shown = record {
  more = [];
  shown = shown_no_rows c.args.returning.now.calls.now (filter (is_other c.args.returning.now.id) c.args.returning.now.calls.now) c.args.table.now ends shown c.restart.new.self c.restart.ensures;
  front = IsPrefixOf-itself [];
  adds = none_settles c.args.returning.now.calls.now c.args.table.now ends shown c.args.returning.now.id c.args.returning.now.answer.now (c.place_of_open.ensures.none c.in-None.is);
}
