use Rattle.std.proofs.Common.{rules}
use Rattle.rows.proofs.Looking.{is_zero, row_half, zero_there}
use Rattle.rows.proofs.row.Row.has_zero.Goals as goal

pub returns-then-place-self : goal.returns-then-place-self
returns-then-place-self c = search (rules, is_zero, row_half, zero_there)
