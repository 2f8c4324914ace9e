use Rattle.std.proofs.Common.{arith}
use Rattle.products.proofs.Sets.{rows_held}
use Rattle.products.proofs.product.rows_of.Goals as goal

pub loop-place-preserved : goal.loop-place-preserved
loop-place-preserved c =
    rows_held c.args.sets.now c.loop-place.place c.loop-place.rows c.size.result c.saturating_mul-rows.result (omega arith) c.loop-place.invariant c.size.ensures c.saturating_mul-rows.ensures
