use Rattle.std.proofs.Common.{◌≡◌, ◌++◌, length, sym, ap, ◌∙◌}
use Rattle.std.proofs.lemmas.Bool.{true≢false}
use Rattle.persistent.specs.declared.tree.Pair.{Pair}
use Rattle.persistent.specs.Trees.{values_of}
use Rattle.persistent.proofs.Rows.{left_same, right_same}
use Rattle.persistent.proofs.tree.Tree.+same.Goals as goal

pub returns-then-same : goal.returns-then-same
returns-then-same g t c =
    let p = c.in-Fork.ours.value in
    let q = c.in-Fork-node.theirs.value in
    let ours : c.args.self.now ≡ p.left ++ p.right = sym c.self.view_is ∙ ap values_of c.in-Fork.is in
    let theirs : c.args.other.now ≡ q.left ++ q.right = sym c.other.view_is ∙ ap values_of c.in-Fork-node.is in
    let left : p.left ≡ q.left = sym (ap (λ (r : Pair g.row.T.Denot). r.left) c.deref-then-len.ensures) ∙ c.same.ensures.0 c.if-same.true ∙ ap (λ (r : Pair g.row.T.Denot). r.left) c.deref-then-len-2.ensures in
    let mine = ap (λ (r : Pair g.row.T.Denot). r.right) c.deref-then-same.ensures in
    let other = ap (λ (r : Pair g.row.T.Denot). r.right) c.deref-then-same-2.ensures in (
      (λ is. ours ∙ ap (λ l. l ++ p.right) left ∙ ap (λ l. q.left ++ l) (sym mine ∙ c.same-then-same.ensures.0 is ∙ other) ∙ sym theirs),
      (λ e. c.same-then-same.ensures.1 (mine ∙ right_same p.left p.right q.left q.right (ap length left) (sym ours ∙ e ∙ theirs) ∙ sym other)),
    )

pub returns-else-same : goal.returns-else-same
returns-else-same g t c =
    let p = c.in-Fork.ours.value in
    let q = c.in-Fork-node.theirs.value in
    let ours : c.args.self.now ≡ p.left ++ p.right = sym c.self.view_is ∙ ap values_of c.in-Fork.is in
    let theirs : c.args.other.now ≡ q.left ++ q.right = sym c.other.view_is ∙ ap values_of c.in-Fork-node.is in
    let mine = ap (λ (r : Pair g.row.T.Denot). r.left) c.deref-then-len.ensures in
    let other = ap (λ (r : Pair g.row.T.Denot). r.left) c.deref-then-len-2.ensures in
    let long : length p.left ≡ length q.left = sym (c.len.ensures ∙ ap (λ (r : Pair g.row.T.Denot). length r.left) c.deref.ensures) ∙ c.if-len.true
    ∙ (c.len-in-Fork-node.ensures ∙ ap (λ (r : Pair g.row.T.Denot). length r.left) c.deref-in-Fork-node.ensures) in (
      (λ is. absurd (true≢false (sym is ∙ c.if-same.false))),
      (λ e. c.same.ensures.1 (mine ∙ left_same p.left p.right q.left q.right long (sym ours ∙ e ∙ theirs) ∙ sym other)),
    )
