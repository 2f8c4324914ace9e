use Rattle.std.proofs.Common.{arith}
use Rattle.rows.proofs.Packing.{longer_rows, packed_longer, shows_words}
use Rattle.std.proofs.lemmas.Grind.{common_steps}
use Rattle.rows.proofs.row_set.RowSet.lengthen.Goals as goal

pub invariant_of-self : goal.invariant_of-self
invariant_of-self c = packed_longer c.self.inside.bits c.self.inside.long c.self.inside.words (let fits = c.if-self-usable_bits.false in let most = c.usable_bits.ensures in omega (arith, fits, most)) c.self.invariant

pub returns-clause-longer : goal.returns-clause-longer
returns-clause-longer c _ = grind (arith, common_steps, longer_rows, shows_words)
