use Rattle.std.proofs.Common.{◌≡◌, subst, IfOk}
use Rattle.std.specs.List.{remove}
use Rattle.persistent.proofs.row.Row.without.Goals as goal

pub returns-in-Piece : goal.returns-in-Piece
returns-in-Piece g c = subst (λ l. IfOk c.row_without.result (λ row. row ≡ remove l c.args.at)) c.in-Piece.ensures.is.0 c.row_without.ensures
