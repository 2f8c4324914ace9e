use Rattle.std.proofs.Common.{◌≡◌, ℕ, ◌≤◌, min, arith}
use Rattle.wide_set.specs.declared.known.Pending.{Pending}
use Rattle.wide_set.proofs.Loops.{with_here, of_all}
use Rattle.wide_set.proofs.queries.oldest.Goals as goal

min_below : (a b n : ℕ) → n ≡ min a b → n ≤ b
min_below a b n is = omega arith

pub loop-call-preserved : goal.loop-call-preserved
loop-call-preserved c =
    let is = c.min-least.ensures in
    record {
      within = (let le = c.loop-call.invariant.within in omega arith);
      below = with_here (λ (p : Pending). c.min-least.result ≤ p.since) c.args.pending.now c.loop-call.call-index _ c.loop-call-test.true
          (λ p h. (let le : c.loop-call.least ≤ p.since = c.loop-call.invariant.below p h in omega arith))
          (min_below c.loop-call.least _ c.min-least.result is);
    }

pub returns : goal.returns
returns c = (c.loop-call.invariant.within, of_all (λ (p : Pending). c.loop-call.least ≤ p.since) c.args.pending.now c.loop-call.call-index c.loop-call-test.false c.loop-call.invariant.below)
