use Rattle.std.proofs.Common.{◌≡◌, subst, IfOk}
use Rattle.persistent.proofs.Leaves.{made_behind}
use Rattle.persistent.proofs.tree.parted_behind.Goals as goal

pub returns : goal.returns
returns g c =
    subst (λ l. IfOk c.fork.result (λ tree. tree ≡ l))
    (made_behind c.args.values.now c.in_ok-leaf.field-0 c.in_ok-right.right c.args.at c.args.half c.args.value c.requires.order c.in_ok-leaf.ensures c.in_ok-right.ensures)
    c.fork.ensures
