use Rattle.std.proofs.Common.{false, refl}
use Rattle.wide_cas_register.proofs.Layering.{first_all, first_more}
use Rattle.wide_cas_register.proofs.fronts.first_fronts.Goals as goal

pub loop-row-preserved : goal.loop-row-preserved
loop-row-preserved c = first_more c.args.rows.now c.loop-row.row-index c.row-item.result c.loop-row-test.true c.row-item.is c.loop-row.fronts.items c.push.new.self.items
    (record { row = c.in_ok-same.same; writes = false }) c.in_ok-push.ensures.items c.loop-row.invariant (record { same = c.in_ok-same.ensures; writes = refl })

pub returns : goal.returns
returns c = first_all c.args.rows.now c.loop-row.row-index c.loop-row-test.false c.loop-row.fronts.items c.loop-row.invariant
