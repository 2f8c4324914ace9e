use Rattle.std.proofs.Common.{[], get_or, unwrap_or, ap, ◌∙◌, arith}
use Rattle.std.proofs.lemmas.Option.{unwrap_or-slice_get}
use Rattle.rows.proofs.list_set.ListSet.number.Goals as goal

pub returns-in_default : goal.returns-in_default
returns-in_default c =
    ap (λ l. get_or l c.args.place 0) (ap (λ o. unwrap_or o []) c.in_default.ensures ∙ unwrap_or-slice_get c.args.self.now c.args.at [])

pub returns-in-Some-get : goal.returns-in-Some-get
returns-in-Some-get c =
    c.in-Some-get.ensures.lookup.3.1 0
    ∙ ap (λ l. get_or l c.args.place 0) (ap (λ o. unwrap_or o []) c.in-Some.ensures ∙ unwrap_or-slice_get c.args.self.now c.args.at [])

pub returns-in-None : goal.returns-in-None
returns-in-None c =
    c.in-None.ensures.lookup.4 (omega arith) 0
    ∙ ap (λ l. get_or l c.args.place 0) (ap (λ o. unwrap_or o []) c.in-Some.ensures ∙ unwrap_or-slice_get c.args.self.now c.args.at [])
