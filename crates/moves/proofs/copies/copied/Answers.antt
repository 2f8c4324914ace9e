use Rattle.std.proofs.lemmas.Result.{IfOk-weaker}
use Rattle.moves.specs.Tables.{IsSameTable, ShowTheSame}
use Rattle.moves.proofs.Renewing.{shown_same}
use Rattle.moves.proofs.copies.copied.Goals as goal

pub returns-in-None : goal.returns-in-None
returns-in-None g c = IfOk-weaker c.copied_whole.result (IsSameTable c.args.table.now) (ShowTheSame c.args.table.now) (λ u. shown_same c.args.table.now u) c.copied_whole.ensures
