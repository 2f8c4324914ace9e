use Rattle.products.specs.Products.{Family, HavePlaces}
use Rattle.std.proofs.Common.{ap, sym, subst}
use Rattle.moves.specs.EndSteps.{Fails}
use Rattle.product_ends.proofs.Left.{left_failed, shown_none, too_short}
use Rattle.product_ends.proofs.after.failed.Goals as goal
use Rattle.product_ends.proofs.after.failed.Goals.{in_default-via-in-Some+else-call-places, in_default-via-in_default}

pub returns-in_ok-take_marked-in-Some : goal.returns-in_ok-take_marked-in-Some
returns-in_ok-take_marked-in-Some g c once at here ends shown =
    left_failed c.args.table.now c.args.calls.now c.args.id c.args.kept.now.1 ends shown once c.in-Some.call c.in-Some.ensures.there c.take_marked.new.products.1 c.rows-rows.ensures.apart
    c.in_ok-take_marked-in-Some.ensures.left

pub returns-in_default : goal.returns-in_default
returns-in_default g c once at here ends shown =
    elim c.in_default.branch [
      | in_default-via-in-Some+else-call-places w ↦
          shown_none c.args.table.now c.args.calls.now c.args.id c.args.kept.now.1 ends shown c.restart.new.self.1 (ap (λ (family : Family). family.1) c.restart.ensures) (Fails c.args.id)
          (λ e f h r.
          too_short c.args.table.now c.args.calls.now c.args.id c.args.kept.now.1 ends shown w.places.result (subst (λ n. HavePlaces n c.args.kept.now.1) (sym w.places.ensures) c.rows-rows-in_default.ensures.long)
          w.in-Some.call w.in-Some.ensures.there w.if-call-places.false e h)
      | in_default-via-in_default w ↦ absurd (c.place_of_open.ensures.none w.in_default.is at here)
    ]
