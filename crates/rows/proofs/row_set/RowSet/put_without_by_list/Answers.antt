use Rattle.std.proofs.Common.{◌≡◌, [], get_or, sym, ap, ◌∙◌, subst}
use Rattle.std.specs.List.{remove}
use Rattle.std.specs.Result.{OnOk}
use Rattle.std.proofs.lemmas.Option.{get_or_from_slice_get}
use Rattle.words.specs.Puts.{IsPut}
use Rattle.rows.proofs.row_set.RowSet.put_without_by_list.Goals as goal

pub returns-clause-put : goal.returns-clause-put
returns-clause-put c =
    let row = get_or c.args.other.now c.args.from [] in
    let here : row ≡ c.read.new.row.items = get_or_from_slice_get c.args.other.now c.args.from c.read.new.row.items [] c.in_ok-read.ensures in
    let left : c.deref.result.now ≡ remove row c.args.place = c.deref.ensures.value ∙ c.remove-number.ensures.items ∙ ap (λ l. remove l c.args.place) (sym here) in
    subst (λ l. OnOk c.put.result (IsPut l c.args.self.now c.put.new.self)) left c.put.ensures.put
