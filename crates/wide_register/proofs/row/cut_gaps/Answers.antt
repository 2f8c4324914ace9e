use Rattle.std.proofs.Common.{pos, refl}
use Rattle.wide_register.specs.Facts.{IsCut}
use Rattle.wide_register.proofs.Trimming.{one_more}
use Rattle.wide_register.proofs.row.cut_gaps.Goals as goal

pub loop-one-preserved : goal.loop-one-preserved
loop-one-preserved c = one_more (IsCut c.args.moments.now) c.args.passed.now c.loop-one.one-index c.loop-one.passed c.loop-one.invariant (record { value = pos 0; gap = 0 })
    c.loop-one-test.true _ (refl, c.least_gap-one.ensures)
