use Rattle.std.proofs.Common.{sym, ◌∙◌}
use Rattle.std.specs.FinSet.{contains-from_list_nat}
use Rattle.moves.proofs.kept_end.has.Goals as goal

pub returns : goal.returns
returns c = c.contains.ensures.value ∙ sym (contains-from_list_nat c.args.ids.now c.args.id)
