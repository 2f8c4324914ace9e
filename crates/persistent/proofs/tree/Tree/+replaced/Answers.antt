use Rattle.std.proofs.Common.{refl, ◌≡◌, ◌<◌, length, sym, ap, subst, ◌∙◌, IfOk}
use Rattle.persistent.specs.declared.tree.Pair.{Pair}
use Rattle.persistent.specs.Trees.{values_of}
use Rattle.persistent.proofs.Fronts.{replaced_left}
use Rattle.persistent.proofs.Rows.{replaced_right}
use Rattle.persistent.proofs.tree.Tree.+replaced.Goals as goal

pub returns-in_ok-right-in-Fork : goal.returns-in_ok-right-in-Fork
returns-in_ok-right-in-Fork g t c =
    let p = c.in-Fork.pair.value in
    let v = c.args.value in
    subst (λ l. IfOk c.fork_with_left.result (λ tree. tree ≡ l))
    (replaced_right c.args.self.now p.left p.right c.deref-in-Fork-2.result.now.right c.in_ok-right-in-Fork.right c.deref-in-Fork-3.result.now.left
    c.len-many.result c.args.at v v
    (sym c.self.view_is ∙ ap values_of c.in-Fork.is) (ap (λ (q : Pair g.row.T.Denot). q.left) c.deref-in-Fork-3.ensures)
    (ap (λ (q : Pair g.row.T.Denot). q.right) c.deref-in-Fork-2.ensures) (sym (c.len-many.ensures ∙ ap (λ (q : Pair g.row.T.Denot). length q.left) c.deref-in-Fork.ensures))
    c.if-at-many.false refl c.in_ok-right-in-Fork.ensures)
    c.fork_with_left.ensures

pub returns-then-at-many : goal.returns-then-at-many
returns-then-at-many g t c =
    let p = c.in-Fork.pair.value in
    let v = c.args.value in
    subst (λ l. IfOk c.fork_with_right.result (λ tree. tree ≡ l))
    (replaced_left c.args.self.now p.left p.right c.deref-then-at-many.result.now.left c.in_ok-left-in-Fork.left c.deref-then-at-many-2.result.now.right c.args.at v v
    (sym c.self.view_is ∙ ap values_of c.in-Fork.is) (ap (λ (q : Pair g.row.T.Denot). q.left) c.deref-then-at-many.ensures)
    (ap (λ (q : Pair g.row.T.Denot). q.right) c.deref-then-at-many-2.ensures)
    (subst (λ n. c.args.at < n) (c.len-many.ensures ∙ ap (λ (q : Pair g.row.T.Denot). length q.left) c.deref-in-Fork.ensures) c.if-at-many.true)
    refl c.in_ok-left-in-Fork.ensures)
    c.fork_with_right.ensures
