use Rattle.std.proofs.Common.{◌≡◌, Some, subst}
use Rattle.std.specs.List.{Contains}
use Rattle.std.specs.Prelude.{IfSome}
use Rattle.wide_cas_register.specs.declared.row.Row.{Row}
use Rattle.wide_cas_register.specs.Facts.{AllOfFront, AllOfRow, OfFront, OfRow}
use Rattle.wide_cas_register.proofs.Gathering.{front_gathered, front_passed, fronts_gathered, none_gathered, row_gathered, rows_gathered}
use Rattle.wide_cas_register.proofs.kept.Kept.rows_after.Goals as goal
use Rattle.wide_cas_register.proofs.kept.Kept.rows_after.Goals.{in-Some+in_ok-keep, in_default}

pub loop-row-init : goal.loop-row-init
loop-row-init c = none_gathered c.args.self.now c.args.effect.now c.args.later.now c.new-left.result.items c.new-left.ensures.items

pub loop-row-preserved : goal.loop-row-preserved
loop-row-preserved c =
    let k = c.args.self.now in
    let effect = c.args.effect.now in
    let row = c.row-item.result in
    let made = c.in_ok-made.made.items in
    let puts = c.in_ok-keep_all.ensures in
    row_gathered k effect c.args.later.now k.rows.items c.deref-row-items.result.now c.deref-row-items.ensures.value c.loop-row.row-index row c.loop-row-test.true c.row-item.is
    c.loop-row.left.items c.keep_all.new.rows.items made c.loop-row.invariant
    (subst (λ l. (r : Row) → Contains made r → OfRow l effect row r) c.deref.ensures.value c.in_ok-made.ensures.each)
    (subst (λ l. AllOfRow l effect row (Contains made)) c.deref.ensures.value c.in_ok-made.ensures.all) puts.each puts.old puts.kept puts.apart

pub loop-front-init : goal.loop-front-init
loop-front-init c = rows_gathered c.args.self.now c.args.effect.now c.args.later.now c.args.self.now.rows.items c.deref-row-items.result.now c.deref-row-items.ensures.value c.loop-row.row-index
    c.loop-row-test.false c.loop-row.left.items c.loop-row.invariant

pub loop-front-preserved : goal.loop-front-preserved
loop-front-preserved c =
    let k = c.args.self.now in
    let effect = c.args.effect.now in
    let later = c.args.later.now in
    let rows = k.rows.items in
    let fronts = c.args.fronts.now in
    let i = c.loop-front.front-index in
    let front = c.front-item.result in
    let found = c.in_ok-found.found in
    let each = subst (λ l. IfSome found (OfFront l k.moment effect front)) c.deref-in-loop-front.ensures.value c.in_ok-found.ensures.each in
    let all = subst (λ l. AllOfFront l k.moment effect front (λ r. found ≡ Some r)) c.deref-in-loop-front.ensures.value c.in_ok-found.ensures.all in
    elim c.match-found.branch [
      | in-Some+in_ok-keep w ↦
          rw w.left-is (front_gathered k effect later rows fronts i front c.loop-front-test.true c.front-item.is c.loop-front.left.items c.loop-front.invariant w.in-Some.row found w.in-Some.is w.keep.new.rows.items each all
          w.in_ok-keep.ensures.each w.in_ok-keep.ensures.old w.in_ok-keep.ensures.kept w.in_ok-keep.ensures.apart)
      | in_default w ↦
          rw w.left-is (front_passed k effect later rows fronts i front c.loop-front-test.true c.front-item.is c.loop-front.left.items c.loop-front.invariant found w.in_default.is all)
    ]

pub returns : goal.returns
returns c = fronts_gathered c.args.self.now c.args.effect.now c.args.later.now c.args.self.now.rows.items c.args.fronts.now c.loop-front.front-index c.loop-front-test.false c.loop-front.left.items c.loop-front.invariant
