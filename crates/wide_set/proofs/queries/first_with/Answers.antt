use Rattle.std.proofs.Common.{◌≡◌, ◌+◌, ◌-◌, ◌<◌, ◌≤◌, length, take, sym, ◌∙◌, subst, arith}
use Rattle.std.specs.List.{Contains}
use Rattle.std.proofs.lemmas.Bool.{true≢false}
use Rattle.wide_set.specs.declared.known.Answered.{Answered}
use Rattle.wide_set.proofs.Places.{to_last}
use Rattle.wide_set.proofs.queries.first_with.Goals as goal

pub returns-else-has-clause-lacking : goal.returns-else-has-clause-lacking
returns-else-has-clause-lacking c nested a h there =
    let before = c.loop-at.at - 1 in
    let last = c.index-answers-at.result in
    let within : c.loop-at.at ≤ length c.args.answers.now = c.loop-at.invariant.within in
    let some : 0 < c.loop-at.at = c.loop-at-test.true in
    let lt : before < length c.args.answers.now = omega arith in
    let e : c.loop-at.at ≡ before + 1 = omega arith in
    let k = to_last c.args.answers.now nested before last lt c.index-answers-at.is a (subst (λ n. Contains (take n c.args.answers.now) a) e h) in
    true≢false (sym (c.has.ensures.1 (subst (λ l. Contains l c.args.value.now) (sym c.as_slice.ensures.value) (subst (λ (x : Answered). Contains x.members c.args.value.now) c.index-answers-at.is (k.0 c.args.value.now there)))) ∙ c.if-has.false)
