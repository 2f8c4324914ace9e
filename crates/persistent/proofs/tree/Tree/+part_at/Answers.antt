use Rattle.std.proofs.Common.{length, sym, ap, ◌∙◌}
use Rattle.persistent.specs.declared.tree.Pair.{Pair}
use Rattle.persistent.specs.Trees.{values_of}
use Rattle.persistent.proofs.Rows.{part_of_right}
use Rattle.persistent.proofs.tree.Tree.+part_at.Goals as goal

pub returns-else-at-many-clause-part : goal.returns-else-at-many-clause-part
returns-else-at-many-clause-part g t c =
    let p = c.in-Fork.pair.value in
    part_of_right c.args.self.now p.left p.right c.deref-in-Fork-2.result.now.right c.part_at-in-Fork.result.now c.len-many.result c.args.at
    (sym c.self.view_is ∙ ap values_of c.in-Fork.is) (ap (λ (q : Pair g.row.T.Denot). q.right) c.deref-in-Fork-2.ensures)
    (sym (c.len-many.ensures ∙ ap (λ (q : Pair g.row.T.Denot). length q.left) c.deref-in-Fork.ensures)) c.if-at-many.false c.part_at-in-Fork.ensures.part
