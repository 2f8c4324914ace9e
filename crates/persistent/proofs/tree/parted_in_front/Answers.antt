use Rattle.std.proofs.Common.{◌≡◌, subst, IfOk}
use Rattle.persistent.proofs.Leaves.{made_in_front}
use Rattle.persistent.proofs.tree.parted_in_front.Goals as goal

pub returns : goal.returns
returns g c =
    subst (λ l. IfOk c.fork-2.result (λ tree. tree ≡ l))
    (made_in_front c.args.values.now c.in_ok-left.left c.in_ok-leaf.field-0 c.args.at c.args.half c.args.value c.requires.order c.in_ok-left.ensures c.in_ok-leaf.ensures)
    c.fork-2.ensures
