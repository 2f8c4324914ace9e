use Rattle.std.proofs.Common.{subst}
use Rattle.std.specs.List.{Contains}
use Rattle.wide_register.specs.declared.row.Row.{Row}
use Rattle.wide_register.specs.Facts.{HasNextBy, IsNextBy}
use Rattle.wide_register.proofs.Gathering.{all_at_end, all_gathered, each_at_end, each_gathered, least_gathered, none_all, none_each, none_least}
use Rattle.wide_register.proofs.kept.Kept.rows_made.Goals as goal

pub loop-row-init : goal.loop-row-init
loop-row-init c =
    let rows = c.args.self.now.rows.items in
    record {
      each = none_each c.args.self.now c.args.moments.now c.args.effect.now rows c.new-made.result.items c.new-made.ensures.items;
      all = none_all c.args.self.now c.args.moments.now c.args.effect.now rows c.new-made.result.items;
      least = none_least c.args.moments.now c.new-made.result.items c.new-made.ensures.items;
    }

pub loop-row-preserved : goal.loop-row-preserved
loop-row-preserved c =
    let k = c.args.self.now in
    let effect = c.args.effect.now in
    let moments = c.args.moments.now in
    let rows = k.rows.items in
    let zs = c.deref-row-items.result.now in
    let e = c.deref-row-items.ensures.value in
    let i = c.loop-row.row-index in
    let row = c.row-item.result in
    let made = c.loop-row.made.items in
    let new = c.join.new.rows.items in
    let next = c.in_ok-next.next.items in
    let j = c.in_ok-join.ensures in
    record {
      each = each_gathered k moments effect rows zs e i row c.loop-row-test.true c.row-item.is made new next j.each j.old j.all c.loop-row.invariant.each
          (subst (λ l. (r : Row) → Contains next r → IsNextBy l k.moment effect row r) c.deref.ensures.value c.in_ok-next.ensures.each);
      all = all_gathered k moments effect rows zs e i row c.loop-row-test.true c.row-item.is made new next j.each j.old j.all c.loop-row.invariant.all
          (subst (λ l. HasNextBy l k.moment effect row next) c.deref.ensures.value c.in_ok-next.ensures.all);
      least = least_gathered k moments effect rows zs e i row c.loop-row-test.true c.row-item.is made new next j.each j.old j.all c.loop-row.invariant.least;
    }

pub returns-clause-each : goal.returns-clause-each
returns-clause-each c = each_at_end c.args.self.now c.args.moments.now c.args.effect.now c.args.self.now.rows.items c.deref-row-items.result.now c.deref-row-items.ensures.value c.loop-row.row-index
    c.loop-row-test.false c.loop-row.made.items c.loop-row.invariant.each

pub returns-clause-all : goal.returns-clause-all
returns-clause-all c = all_at_end c.args.self.now c.args.moments.now c.args.effect.now c.args.self.now.rows.items c.deref-row-items.result.now c.deref-row-items.ensures.value c.loop-row.row-index
    c.loop-row-test.false c.loop-row.made.items c.loop-row.invariant.all
