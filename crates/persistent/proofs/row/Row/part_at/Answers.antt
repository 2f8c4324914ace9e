use Rattle.std.proofs.Common.{◌≡◌, ◌+◌, ◌≤◌, ◌++◌, length, take, subst}
use Rattle.persistent.proofs.Showing.{rest_some, rest_within, rest_part}
use Rattle.persistent.proofs.row.Row.part_at.Goals as goal

pub returns-in-Piece-clause-some : goal.returns-in-Piece-clause-some
returns-in-Piece-clause-some g c = rest_some c.args.self.now c.in-Piece.values.now c.args.at c.in-Piece.ensures.is.0 c.requires

pub returns-in-Piece-clause-within : goal.returns-in-Piece-clause-within
returns-in-Piece-clause-within g c = rest_within c.args.self.now c.in-Piece.values.now c.args.at c.in-Piece.ensures.is.0 c.requires

pub returns-in-Piece-clause-part : goal.returns-in-Piece-clause-part
returns-in-Piece-clause-part g c = rest_part c.args.self.now c.in-Piece.values.now c.args.at c.in-Piece.ensures.is.0 c.requires

pub returns-in-Whole-clause-within : goal.returns-in-Whole-clause-within
returns-in-Whole-clause-within g c = subst (λ l. c.args.at + length c.part_at.result.now ≤ length l) c.in-Whole.ensures.is.0 c.part_at.ensures.within

pub returns-in-Whole-clause-part : goal.returns-in-Whole-clause-part
returns-in-Whole-clause-part g c =
    subst (λ l. take (c.args.at + length c.part_at.result.now) l ≡ take c.args.at l ++ c.part_at.result.now) c.in-Whole.ensures.is.0 c.part_at.ensures.part
