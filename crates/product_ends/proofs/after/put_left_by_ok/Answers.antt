use Rattle.std.proofs.Common.{inr, ap, sym, subst}
use Rattle.rows.proofs.Elements.{Contains-nil}
use Rattle.moves.specs.EndSteps.{Settles}
use Rattle.moves.specs.Tables.{with_rows}
use Rattle.ends.specs.Oks.{AreMarksOf}
use Rattle.ends.proofs.Settling.{none_settles}
use Rattle.products.specs.Products.{Family, HavePlaces, rows_in}
use Rattle.product_ends.proofs.Left.{left_settled, shown_none, too_short}
use Rattle.product_ends.proofs.after.put_left_by_ok.Goals as goal
use Rattle.product_ends.proofs.after.put_left_by_ok.Goals.{in_default-via-in-Some+else-call-places, in_default-via-in_default}

pub returns-in_ok-take_marked-in-Some : goal.returns-in_ok-take_marked-in-Some
returns-in_ok-take_marked-in-Some g c once ends shown =
    left_settled c.args.table.now c.args.returning.now.calls.now c.args.returning.now.id c.args.all.now.1 ends shown once c.in-Some.call c.in-Some.ensures.there c.take_marked.new.products.1 c.rows-rows.ensures.apart c.deref.result.now
    c.in_ok-take_marked-in-Some.ensures.left c.args.returning.now.answer.now
    (subst (AreMarksOf c.args.returning.now.answer.now c.args.table.now.founds) (sym c.deref.ensures.value) c.in_ok-mark_fitting-in-Some.ensures)

pub returns-in_default : goal.returns-in_default
returns-in_default g c once ends shown =
    elim c.in_default.branch [
      | in_default-via-in-Some+else-call-places w ↦
          shown_none c.args.table.now c.args.returning.now.calls.now c.args.returning.now.id c.args.all.now.1 ends shown c.restart.new.self.1 (ap (λ (family : Family). family.1) c.restart.ensures) (Settles c.args.returning.now.id c.args.returning.now.answer.now)
          (λ e f h r.
          too_short c.args.table.now c.args.returning.now.calls.now c.args.returning.now.id c.args.all.now.1 ends shown w.places.result (subst (λ n. HavePlaces n c.args.all.now.1) (sym w.places.ensures) c.rows-rows-in_default.ensures.long)
          w.in-Some.call w.in-Some.ensures.there w.if-call-places.false e h)
      | in_default-via-in_default w ↦
          shown_none c.args.table.now c.args.returning.now.calls.now c.args.returning.now.id c.args.all.now.1 ends shown c.restart.new.self.1 (ap (λ (family : Family). family.1) c.restart.ensures) (Settles c.args.returning.now.id c.args.returning.now.answer.now)
          (λ e f h r.
          let none = none_settles c.args.returning.now.calls.now (with_rows c.args.table.now (rows_in c.args.all.now.1)) ends shown c.args.returning.now.id c.args.returning.now.answer.now (c.place_of_open.ensures.none w.in_default.is) in
          Contains-nil f ((none.each f).1 (inr (e, h, r))))
    ]
