use Rattle.std.proofs.Common.{◌≡◌, ◌+◌, ◌-◌, ◌<◌, ◌≤◌, length, take, sym, ap, ◌∙◌, subst, arith}
use Rattle.std.specs.List.{Contains}
use Rattle.wide_set.specs.declared.known.Answered.{Answered}
use Rattle.wide_set.proofs.Places.{to_last}
use Rattle.wide_set.proofs.queries.first_longer.Goals as goal

pub returns-else-as_slice-many-clause-fewer : goal.returns-else-as_slice-many-clause-fewer
returns-else-as_slice-many-clause-fewer c nested a h =
    let before = c.loop-at.at - 1 in
    let last = c.index-answers-at.result in
    let within : c.loop-at.at ≤ length c.args.answers.now = c.loop-at.invariant.within in
    let some : 0 < c.loop-at.at = c.loop-at-test.true in
    let lt : before < length c.args.answers.now = omega arith in
    let e : c.loop-at.at ≡ before + 1 = omega arith in
    let k = to_last c.args.answers.now nested before last lt c.index-answers-at.is a (subst (λ n. Contains (take n c.args.answers.now) a) e h) in
    let le : length a.members ≤ length last.members = k.1 in
    let s : length c.as_slice.result.now ≡ length last.members = ap length c.as_slice.ensures.value ∙ ap (λ (x : Answered). length x.members) (sym c.index-answers-at.is) in
    let few : length c.as_slice.result.now ≤ c.args.many = c.if-as_slice-many.false in
    omega arith
