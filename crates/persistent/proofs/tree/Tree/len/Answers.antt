use Rattle.std.proofs.Common.{sym, ap, ◌∙◌, length, drop}
use Rattle.persistent.specs.Trees.{values_of}
use Rattle.persistent.proofs.tree.Tree.len.Goals as goal

pub returns-in-Leaf : goal.returns-in-Leaf
returns-in-Leaf g c =
    ap length (c.behind.ensures ∙ ap (λ v. drop c.in-Leaf.from v.items) c.deref.ensures)
    ∙ sym (ap length (sym c.self.view_is ∙ ap values_of c.in-Leaf.is))
