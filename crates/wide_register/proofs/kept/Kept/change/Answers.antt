use Rattle.std.proofs.Common.{◌∙◌, subst}
use Rattle.events.specs.Events.{Mark, act_by, mark_by_act}
use Rattle.wide_register.specs.Facts.{AreChanged}
use Rattle.wide_register.proofs.Changes.{is_after}
use Rattle.wide_register.proofs.kept.Kept.change.Goals as goal

pub returns : goal.returns
returns c =
    let k = c.args.self.now in
    let mark : Mark = mark_by_act c.args.id c.args.id (act_by c.args.kind c.args.op.now) in
    is_after mark k _ c.in_ok-moment.ensures c.in_ok-calls.ensures
    (subst (λ l. AreChanged mark k l c.in_ok-rows.rows) c.deref.ensures.value (c.in_ok-rows.ensures (c.deref.ensures.value ∙ c.in_ok-calls.ensures)))
