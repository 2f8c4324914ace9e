use Rattle.std.proofs.Common.{◌≡◌, ◌+◌, ◌++◌, suc, take, drop, ap, subst, ◌∙◌, IfOk, arith}
use Rattle.std.proofs.lemmas.List.{take_rest}
use Rattle.persistent.proofs.Rows.{one_left_out}
use Rattle.persistent.proofs.row.row_without.Goals as goal

pub returns : goal.returns
returns g c =
    let xs = c.args.values.now in
    let at = c.args.at in
    let next : at + 1 ≡ suc at = omega arith in
    subst (λ l. IfOk c.row_of.result (λ row. row ≡ l))
    (ap (λ l. take at xs ++ l) (take_rest xs (at + 1)) ∙ ap (λ n. take at xs ++ drop n xs) next ∙ one_left_out xs at c.requires)
    c.row_of.ensures
