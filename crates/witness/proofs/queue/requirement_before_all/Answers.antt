-- calls from the last to the first
use Rattle.std.proofs.Common.{◌≡◌, ◌+◌, ◌≤◌, IfSome, ◌++◌, drop, sym, subst, arith}
use Rattle.witness.specs.declared.requirement.Requirement.{Requirement}
use Rattle.witness.specs.Requirements.{IsRequirement, AreBefore}
use Rattle.witness.proofs.Ahead.{none_ahead, requirement_more, no_more}
use Rattle.witness.proofs.queue.requirement_before_all.Goals as goal
use Rattle.witness.proofs.queue.requirement_before_all.Goals.{In_ok-before}

pub loop-at-init : goal.loop-at-init
loop-at-init c = record {
  ahead = λ later h. subst (λ l. IsRequirement (l ++ later) c.args.after) (sym (none_ahead c.args.calls.now)) h;
  more = omega arith;
}

pub requirement_before-requires : goal.requirement_before-requires
requirement_before-requires c = let r = c.requires in let m = c.loop-at.invariant.more in let t = c.loop-at-test.true in omega (arith, r, m, t)

before : (c : In_ok-before) → AreBefore c.index-calls-at.result c.loop-at.requirement c.in_ok-before.field-0
before c = c.in_ok-before.ensures.requirement c.index-calls-at.result (λ i. c.index-calls-at.result.op) (λ i. c.index-calls-at.result.answer)

pub loop-at-preserved : goal.loop-at-preserved
loop-at-preserved c = record {
  ahead = λ later h. requirement_more c.args.calls.now later c.loop-at.at c.index-calls-at.result c.loop-at.requirement c.in-Some.before c.loop-at-test.true c.loop-at.auto.at c.index-calls-at.is
      (subst (AreBefore c.index-calls-at.result c.loop-at.requirement) c.in-Some.is (before (goal.at.loop-at-preserved c).In_ok-before)) (c.loop-at.invariant.ahead later h);
  more = (
      let b = subst (λ o. IfSome o (λ (n : Requirement). n.more ≤ c.loop-at.requirement.more + 1)) c.in-Some.is c.in_ok-before.ensures.more in
      let m = c.loop-at.invariant.more in
      let t = c.loop-at-test.true in
      omega (arith, b, m, t));
}

pub returns-in-None : goal.returns-in-None
returns-in-None c = λ later h s. no_more c.args.calls.now later c.loop-at.at c.index-calls-at.result c.loop-at.requirement c.loop-at-test.true c.loop-at.auto.at c.index-calls-at.is
    (subst (AreBefore c.index-calls-at.result c.loop-at.requirement) c.in-None.is (before (goal.at.returns-in-None c).In_ok-before)) (c.loop-at.invariant.ahead later h) s

pub returns : goal.returns
returns c = λ later h. let e : c.loop-at.at ≡ 0 = (let t = c.loop-at-test.false in omega (arith, t)) in
    subst (λ n. IsRequirement (drop n c.args.calls.now ++ later) c.loop-at.requirement) e (c.loop-at.invariant.ahead later h)
