use Rattle.std.proofs.Common.{◌+◌, refl, subst, sym, take}
use Rattle.std.specs.List.{AllZip}
use Rattle.wide_cas_register.specs.Facts.{IsSame}
use Rattle.wide_cas_register.proofs.Copies.{copied_all, copied_more}
use Rattle.wide_cas_register.proofs.kept.Kept.copy.Goals as goal

pub loop-row-preserved : goal.loop-row-preserved
loop-row-preserved c = subst (AllZip IsSame (take (c.loop-row.row-index + 1) c.args.self.now.rows.items)) (sym c.in_ok-push.ensures.items)
    (copied_more c.args.self.now.rows.items c.deref-row-items.result.now c.loop-row.rows.items c.loop-row.row-index c.row-item.result c.in_ok-copy.field-0
    c.deref-row-items.ensures.value c.loop-row-test.true c.row-item.is c.loop-row.invariant c.in_ok-copy.ensures)

pub returns : goal.returns
returns c = record {
  moment = refl;
  calls = c.in_ok-calls.ensures;
  rows = copied_all c.args.self.now.rows.items c.deref-row-items.result.now c.loop-row.rows.items c.loop-row.row-index c.deref-row-items.ensures.value c.loop-row-test.false c.loop-row.invariant;
}
