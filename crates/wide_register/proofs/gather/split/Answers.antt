use Rattle.std.proofs.Common.{inl, ⊎_elim, arith}
use Rattle.std.specs.List.{Contains}
use Rattle.wide_register.proofs.Gathering.{all_placed, place_each, rest_joined}
use Rattle.wide_register.proofs.Keeping.{none_left}
use Rattle.wide_register.proofs.gather.split.Goals as goal

pub loop-row-preserved : goal.loop-row-preserved
loop-row-preserved c =
    let id = c.args.id in
    let all = c.args.rows.items in
    let more = c.loop-row.rows.items in
    let rest = c.pop.new.self.items in
    let old = c.loop-row.halves in
    let new = c.place.new.halves in
    let row = c.in-Some.row in
    let cut = c.in-Some.ensures.items in
    let i = c.loop-row.invariant in
    let p = c.in_ok-place.ensures in
    record {
      within = rest_joined all more rest row cut i.within;
      with_it = place_each all more rest row cut (λ r. Contains r.needed.items id) old.with.items new.with.items i.within i.with_it (λ r h. (p.with_it r).0 h);
      without_it = place_each all more rest row cut (λ r. ¬ Contains r.needed.items id) old.without.items new.without.items i.within i.without_it (λ r h. (p.without_it r).0 h);
      all = all_placed all more rest row cut old.with.items new.with.items old.without.items new.without.items i.all (λ r h. (p.with_it r).1 (inl h)) (λ r h. (p.without_it r).1 (inl h)) p.placed;
    }

pub returns : goal.returns
returns c = record {
  with' = c.loop-row.invariant.with_it;
  without = c.loop-row.invariant.without_it;
  all = λ r h. ⊎_elim
      (λ k. (let e = none_left _ _ _ c.pop.result c.in_default.not-Some c.pop.ensures.cases in
      let ok = c.loop-row.rows.ok.0 in
      let l = k.1 in
      absurd (omega arith)))
      (λ k. k)
      (c.loop-row.invariant.all r h);
}
