use Rattle.std.proofs.Common.{◌≡◌, ◌++◌, subst, IfOk}
use Rattle.persistent.proofs.Rows.{before_two}
use Rattle.persistent.proofs.tree.lean_right_apart.Goals as goal

pub returns-then-is_low : goal.returns-then-is_low
returns-then-is_low g c =
    subst (λ l. IfOk c.fork_around.result (λ tree. tree ≡ (c.args.left ++ c.args.inner.now) ++ l)) c.in_ok-outer.ensures c.fork_around.ensures

pub returns : goal.returns
returns g c =
    subst (λ l. IfOk c.fork.result (λ tree. tree ≡ l))
    (before_two c.args.left c.args.inner.now c.args.outer.now c.in_ok-fork_with_right.field-0 c.in_ok-outer.outer c.in_ok-fork_with_right.ensures c.in_ok-outer.ensures) c.fork.ensures
