use Rattle.std.proofs.Common.{[], length, unwrap_or, ap, ◌∙◌}
use Rattle.std.proofs.lemmas.Option.{unwrap_or-slice_get}
use Rattle.rows.proofs.list_set.ListSet.long_at.Goals as goal

pub returns-in-None : goal.returns-in-None
returns-in-None c = ap length (ap (λ o. unwrap_or o []) c.in-None.ensures ∙ unwrap_or-slice_get c.args.self.now c.args.at [])
