use Rattle.std.proofs.Common.{◌≡◌, ◌≢◌, ◌+◌, ℕ, ℤ, pos, get_or, length, refl, ap, arith}
use Rattle.models.proofs.Counting.{fewer_at_first, one_different}
use Rattle.models.proofs.unordered_queue.has_more_values.Goals as goal

pub returns-then-different-most : goal.returns-then-different-most
returns-then-different-most c =
    let s = c.args.state.now in
    let at = c.values.at in
    let counted = c.values.invariant.counted in
    let new : (p : ℕ) (e : ℤ) → p + 1 ≡ at → get_or s p e ≢ get_or s at e = (λ p e q. c.values.invariant.new p e q (omega arith)) in
    let one = one_different s at (pos 0) (omega arith) c.len-many.ensures.never_falls new in
    let first = fewer_at_first s (at + 1) in
    let is = c.if-different-most.true in (
      (λ t. omega (arith, counted, one, first, is)),
      (λ more. refl),
    )

pub values-preserved : goal.values-preserved
values-preserved c =
    let s = c.args.state.now in
    let at = c.values.at in
    let counted = c.values.invariant.counted in
    let few = c.values.invariant.few in
    let other = c.if-different-most.false in
    let new : (p : ℕ) (e : ℤ) → p + 1 ≡ at → get_or s p e ≢ get_or s at e = (λ p e q. c.values.invariant.new p e q (omega arith)) in
    let one = one_different s at (pos 0) (omega arith) c.len-many.ensures.never_falls new in
    let same = ap length c.past-at.ensures.same in
    record {
      within = c.past-at.ensures.within;
      counted = omega (arith, counted, one, same);
      few = omega (arith, few, other);
      new = c.past-at.ensures.new;
    }
