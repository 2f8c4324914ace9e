use Rattle.std.proofs.Common.{◌≡◌, refl, sym, ap, subst, ◌∙◌, IfOk}
use Rattle.persistent.specs.declared.tree.Pair.{Pair}
use Rattle.persistent.specs.Trees.{values_of}
use Rattle.persistent.proofs.Rows.{behind_two, four_as_three}
use Rattle.persistent.proofs.tree.fork_around.Goals as goal

pub returns-in-Fork : goal.returns-in-Fork
returns-in-Fork g c =
    let p = c.in-Fork.pair.value in
    subst (λ l. IfOk c.fork_of_forks.result (λ tree. tree ≡ l))
    (four_as_three c.args.left p.left c.deref.result.now.left p.right c.deref-in-Fork.result.now.right c.args.right c.args.middle.now
    (ap (λ (q : Pair g.row.T.Denot). q.left) c.deref.ensures) (ap (λ (q : Pair g.row.T.Denot). q.right) c.deref-in-Fork.ensures) (sym c.middle.view_is ∙ ap values_of c.in-Fork.is))
    c.fork_of_forks.ensures

pub returns : goal.returns
returns g c =
    subst (λ l. IfOk c.fork.result (λ tree. tree ≡ l))
    (behind_two c.args.left c.args.middle.now c.args.right c.args.left c.in_ok-right.right refl c.in_ok-right.ensures) c.fork.ensures
