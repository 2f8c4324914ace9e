use Rattle.std.proofs.Common.{◌∙◌}
use Rattle.wide_register.proofs.Gathering.{rows_after}
use Rattle.wide_register.proofs.kept.Kept.rows_after.Goals as goal

pub returns : goal.returns
returns c = rows_after c.args.self.now c.args.effect.now c.args.later.now _ c.in_ok-made.made.items c.in_ok-left.left.items
    (c.deref.ensures.value ∙ c.in_ok-moments.ensures) c.in_ok-made.ensures.each c.in_ok-made.ensures.all c.in_ok-made.ensures.least
    c.in_ok-left.ensures.each c.in_ok-left.ensures.kept c.in_ok-left.ensures.apart
