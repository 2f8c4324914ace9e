use Rattle.std.proofs.Common.{inl, ⊎_elim, arith}
use Rattle.wide_register.proofs.Gathering.{all_joined, each_joined, rest_joined, still_joined}
use Rattle.wide_register.proofs.Keeping.{none_left}
use Rattle.wide_register.proofs.kept.join.Goals as goal

pub loop-row-init : goal.loop-row-init
loop-row-init c = record {
  each = λ r h. inl h;
  old = λ r h. h;
  within = λ r h. h;
  all = λ m h. inl h;
}

pub loop-row-preserved : goal.loop-row-preserved
loop-row-preserved c =
    let first = c.args.rows.now.items in
    let all = c.args.more.items in
    let more = c.loop-row.more.items in
    let rows = c.loop-row.rows.items in
    let rest = c.pop.new.self.items in
    let new = c.push.new.self.items in
    let row = c.in-Some.row in
    let made = c.trim.new.self in
    let moments = c.args.moments.now in
    let cut = c.in-Some.ensures.items in
    let i = c.loop-row.invariant in
    let pushed = c.in_ok-push.ensures.items in
    record {
      each = each_joined moments first all more rows rest new row made cut pushed i.within i.each c.trim.ensures.same c.trim.ensures.least;
      old = λ r h. still_joined rows new made pushed r (i.old r h);
      within = rest_joined all more rest row cut i.within;
      all = all_joined moments all more rows rest new row made cut pushed i.all c.trim.ensures.same;
    }

pub returns-clause-all : goal.returns-clause-all
returns-clause-all c m h = ⊎_elim
    (λ k. (let e = none_left _ _ _ c.pop.result c.in_default.not-Some c.pop.ensures.cases in
    let ok = c.loop-row.more.ok.0 in
    let l = k.1 in
    absurd (omega arith)))
    (λ k. k)
    (c.loop-row.invariant.all m h)
