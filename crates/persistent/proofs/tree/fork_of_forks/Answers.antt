use Rattle.std.proofs.Common.{◌≡◌, ◌++◌, ap, subst, ◌∙◌, IfOk}
use Rattle.persistent.proofs.tree.fork_of_forks.Goals as goal

pub returns : goal.returns
returns g c =
    let a = c.args in
    subst (λ l. IfOk c.fork.result (λ tree. tree ≡ l))
    (ap (λ l. l ++ c.in_ok-right.right) c.in_ok-left.ensures ∙ ap (λ l. (a.left ++ a.first.now) ++ l) c.in_ok-right.ensures) c.fork.ensures
