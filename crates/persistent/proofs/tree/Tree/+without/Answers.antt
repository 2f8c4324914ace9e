use Rattle.std.specs.List.{remove}
use Rattle.std.proofs.Common.{◌+◌, drop, ◌≡◌, ◌<◌, length, sym, ap, subst, ◌∙◌, IfOk}
use Rattle.std.proofs.lemmas.List.{drop-drop}
use Rattle.persistent.specs.declared.tree.Pair.{Pair}
use Rattle.persistent.specs.Trees.{values_of}
use Rattle.persistent.proofs.Fronts.{without_left}
use Rattle.persistent.proofs.Rows.{without_right}
use Rattle.persistent.proofs.tree.Tree.+without.Goals as goal

pub returns-in_ok-right-in-Fork : goal.returns-in_ok-right-in-Fork
returns-in_ok-right-in-Fork g t c =
    let p = c.in-Fork.pair.value in
    subst (λ l. IfOk c.joined_with_left.result (λ tree. tree ≡ l))
    (without_right c.args.self.now p.left p.right c.deref-in-Fork-2.result.now.right c.in_ok-right-in-Fork.right c.deref-in-Fork-3.result.now.left
    c.len-many.result c.args.at
    (sym c.self.view_is ∙ ap values_of c.in-Fork.is) (ap (λ (q : Pair g.row.T.Denot). q.left) c.deref-in-Fork-3.ensures)
    (ap (λ (q : Pair g.row.T.Denot). q.right) c.deref-in-Fork-2.ensures) (sym (c.len-many.ensures ∙ ap (λ (q : Pair g.row.T.Denot). length q.left) c.deref-in-Fork.ensures))
    c.if-at-many.false c.in_ok-right-in-Fork.ensures)
    c.joined_with_left.ensures

pub returns-then-from-lt4294967295 : goal.returns-then-from-lt4294967295
returns-then-from-lt4294967295 g t c =
    let from = c.in-Leaf.from in
    let few = c.in-Leaf.few.value in
    ap (λ v. drop (from + 1) v.items) c.in_ok-try_clone-in-Leaf.ensures
    ∙ sym (drop-drop 1 from few.items) ∙ ap (drop 1) (sym (sym c.self.view_is ∙ ap values_of c.in-Leaf.is)) ∙ ap (remove c.args.self.now) (sym c.if-at-eq0.true)

pub returns-then-at-many : goal.returns-then-at-many
returns-then-at-many g t c =
    let p = c.in-Fork.pair.value in
    subst (λ l. IfOk c.joined_with_right.result (λ tree. tree ≡ l))
    (without_left c.args.self.now p.left p.right c.deref-then-at-many.result.now.left c.in_ok-left-in-Fork.left c.deref-then-at-many-2.result.now.right c.args.at
    (sym c.self.view_is ∙ ap values_of c.in-Fork.is) (ap (λ (q : Pair g.row.T.Denot). q.left) c.deref-then-at-many.ensures)
    (ap (λ (q : Pair g.row.T.Denot). q.right) c.deref-then-at-many-2.ensures)
    (subst (λ n. c.args.at < n) (c.len-many.ensures ∙ ap (λ (q : Pair g.row.T.Denot). length q.left) c.deref-in-Fork.ensures) c.if-at-many.true)
    c.in_ok-left-in-Fork.ensures)
    c.joined_with_right.ensures
