use Rattle.std.proofs.Common.{◌≡◌, [], get_or, set, sym, ap, ◌∙◌, subst}
use Rattle.std.specs.Result.{OnOk}
use Rattle.std.proofs.lemmas.Option.{get_or_from_slice_get}
use Rattle.words.specs.Puts.{IsPut}
use Rattle.rows.proofs.row_set.RowSet.put_next_by_list.Goals as goal

pub returns-clause-put : goal.returns-clause-put
returns-clause-put c =
    let row = get_or c.args.self.now c.args.from [] in
    let here : row ≡ c.read.new.row.items = get_or_from_slice_get c.args.self.now c.args.from c.read.new.row.items [] c.in_ok-read.ensures in
    let next = c.deref.ensures.value ∙ ap (λ l. set (set l 0 c.args.to) c.args.place c.args.slot) (sym here) in
    subst (λ l. OnOk c.put.result (IsPut l c.args.self.now c.put.new.self)) next c.put.ensures.put
