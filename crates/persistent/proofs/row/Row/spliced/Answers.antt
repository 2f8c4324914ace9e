use Rattle.std.proofs.Common.{◌≡◌, subst, IfOk}
use Rattle.persistent.proofs.Showing.{around_in}
use Rattle.persistent.proofs.row.Row.spliced.Goals as goal

pub returns-in-Piece : goal.returns-in-Piece
returns-in-Piece g c =
    subst (λ l. IfOk c.row_around.result (λ row. row ≡ l))
    (around_in c.args.self.now c.in-Piece.values.now c.args.from c.args.to c.args.value c.in-Piece.ensures.is.0) c.row_around.ensures
