use Rattle.std.proofs.Common.{◌≡◌, ◌++◌, subst, IfOk}
use Rattle.persistent.proofs.Rows.{behind_two}
use Rattle.persistent.proofs.tree.lean_left_apart.Goals as goal

pub returns-then-is_low : goal.returns-then-is_low
returns-then-is_low g c =
    subst (λ l. IfOk c.fork_around.result (λ tree. tree ≡ l ++ c.args.inner.now ++ c.args.right)) c.in_ok-outer.ensures c.fork_around.ensures

pub returns : goal.returns
returns g c =
    subst (λ l. IfOk c.fork-2.result (λ tree. tree ≡ l))
    (behind_two c.args.outer.now c.args.inner.now c.args.right c.in_ok-outer.outer c.in_ok-fork_with_left.field-0 c.in_ok-outer.ensures c.in_ok-fork_with_left.ensures) c.fork-2.ensures
