-- the first of two goes, and the value is put in place of the other
use Rattle.std.proofs.Common.{◌≡◌, ◌+◌, ◌++◌, ◌∷◌, take, drop, ap, subst, ◌∙◌, IfOk, arith}
use Rattle.persistent.proofs.Rows.{one_for_two}
use Rattle.persistent.proofs.tree.Tree.spliced.Goals as goal

pub returns : goal.returns
returns g c =
    let s = c.args.self.now in
    let from = c.args.from in
    let value = c.args.value in
    let two : from + 2 ≡ c.args.to = omega (arith, c.requires.order, c.requires.few, c.if-from-to.false, c.if-from-to-2.false) in
    subst (λ l. IfOk c.replaced-2.result (λ tree. tree ≡ l))
    (ap (λ l. take from l ++ value ∷ drop (from + 1) l) c.in_ok-fewer.ensures ∙ one_for_two s from value (omega (arith, c.requires.within, two))
    ∙ ap (λ n. take from s ++ value ∷ drop n s) two)
    c.replaced-2.ensures
