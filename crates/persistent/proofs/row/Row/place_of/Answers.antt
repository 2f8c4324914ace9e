use Rattle.std.proofs.Common.{w64}
use Rattle.std.proofs.lemmas.Int.{to_z-of_z}
use Rattle.persistent.proofs.Showing.{before_in, there_in}
use Rattle.persistent.proofs.row.Row.place_of.Goals as goal

pub returns-in-Piece-clause-before : goal.returns-in-Piece-clause-before
returns-in-Piece-clause-before g c =
    before_in g.T.Placed.place c.args.self.now c.in-Piece.values.now c.place_in.result c.args.value _ c.in-Piece.ensures.is.0 (to_z-of_z w64 c.args.value c.ranges.value) c.place_in.ensures.before

pub returns-in-Piece-clause-there : goal.returns-in-Piece-clause-there
returns-in-Piece-clause-there g c =
    there_in g.T.Placed.place c.args.self.now c.in-Piece.values.now c.place_in.result c.args.value _ c.in-Piece.ensures.is.0 (to_z-of_z w64 c.args.value c.ranges.value) c.place_in.ensures.there

pub returns-in-Whole-clause-before : goal.returns-in-Whole-clause-before
returns-in-Whole-clause-before g c =
    before_in g.T.Placed.place c.args.self.now c.in-Whole.tree.now c.place_of.result c.args.value _ c.in-Whole.ensures.is.0 (to_z-of_z w64 c.args.value c.ranges.value) c.place_of.ensures.before

pub returns-in-Whole-clause-there : goal.returns-in-Whole-clause-there
returns-in-Whole-clause-there g c =
    there_in g.T.Placed.place c.args.self.now c.in-Whole.tree.now c.place_of.result c.args.value _ c.in-Whole.ensures.is.0 (to_z-of_z w64 c.args.value c.ranges.value) c.place_of.ensures.there
