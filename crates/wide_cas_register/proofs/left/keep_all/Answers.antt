use Rattle.std.proofs.Common.{inl, ⊎_elim, arith}
use Rattle.wide_cas_register.proofs.Keeping.{each_of_all, kept_itself, kept_of_all, kept_still, none_left, rest_within}
use Rattle.wide_cas_register.proofs.left.keep_all.Goals as goal

pub loop-row-init : goal.loop-row-init
loop-row-init c = record {
  each = λ r h. inl h;
  old = λ r h. kept_itself c.args.calls.now c.args.rows.now.items r h;
  within = λ r h. h;
  kept = λ r h. inl h;
  apart = λ a. a;
}

pub loop-row-preserved : goal.loop-row-preserved
loop-row-preserved c =
    let calls = c.args.calls.now in
    let first = c.args.rows.now.items in
    let all = c.args.more.items in
    let more = c.loop-row.more.items in
    let rows = c.loop-row.rows.items in
    let rest = c.pop.new.self.items in
    let new = c.keep.new.rows.items in
    let row = c.in-Some.row in
    let cut = c.in-Some.ensures.items in
    let i = c.loop-row.invariant in
    let k = c.in_ok-keep.ensures in
    record {
      each = each_of_all calls first more rows new rest row cut all i.within i.each k.each;
      old = λ r h. kept_still calls rows new k.old r (i.old r h);
      within = rest_within calls first more rows new rest row cut all i.within;
      kept = kept_of_all calls first more rows new rest row cut all i.kept k.old k.kept;
      apart = λ a. k.apart (i.apart a);
    }

pub returns-clause-kept : goal.returns-clause-kept
returns-clause-kept c r h = ⊎_elim
    (λ k. (let e = none_left _ _ _ c.pop.result c.in_default.not-Some c.pop.ensures.cases in
    let ok = c.loop-row.more.ok.0 in
    let l = k.1 in
    absurd (omega arith)))
    (λ k. k)
    (c.loop-row.invariant.kept r h)
