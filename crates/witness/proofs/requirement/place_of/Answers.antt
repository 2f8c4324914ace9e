-- a place among values that never fall
use Rattle.std.proofs.Common.{◌≡◌, ◌+◌, ◌-◌, ◌/◌, ◌≤◌, ◌<ℤ◌, ◌≤ℤ◌, ℕ, pos, length, get_or, FitsSigned, to_z, of_z, w64, rules, ap, ◌∙◌, subst, arith}
use Rattle.std.proofs.lemmas.Int.{ints, to_z-of_z}
use Rattle.witness.proofs.Searching.{below_middle, above_middle, none_in}
use Rattle.witness.proofs.requirement.place_of.Goals as goal
use Rattle.witness.proofs.requirement.place_of.Goals.{else-low-len-via-then-low-len+else-get-value-2, else-low-len-via-else-low-len}

pub places-preserved-then-get-value : goal.places-preserved-then-get-value
places-preserved-then-get-value c =
    let v = to_z w64 (of_z w64 c.args.value) in
    let m : ℕ = c.places.low + (c.places.high - c.places.low) / 2 in
    let within : c.places.high ≤ length c.args.values.now = c.places.invariant.within in
    let fits : FitsSigned w64 c.get.result = search rules in
    let same : to_z w64 (of_z w64 c.get.result) ≡ get_or c.args.values.now m (pos 0) = to_z-of_z w64 c.get.result fits ∙ c.get.ensures.value in
    let under : to_z w64 (of_z w64 c.get.result) <ℤ v = grind (arith, ints) in
    record {
      below = below_middle c.args.values.now c.get.ensures.never_falls v m (omega arith) (subst (λ z. z <ℤ v) same under);
      above = c.places.invariant.above;
      ordered = omega arith;
      within = within;
    }

pub places-preserved : goal.places-preserved
places-preserved c =
    let v = to_z w64 (of_z w64 c.args.value) in
    let m : ℕ = c.places.low + (c.places.high - c.places.low) / 2 in
    let within : c.places.high ≤ length c.args.values.now = c.places.invariant.within in
    let fits : FitsSigned w64 c.get.result = search rules in
    let same : to_z w64 (of_z w64 c.get.result) ≡ get_or c.args.values.now m (pos 0) = to_z-of_z w64 c.get.result fits ∙ c.get.ensures.value in
    let over : v ≤ℤ to_z w64 (of_z w64 c.get.result) = grind (arith, ints) in
    record {
      below = c.places.invariant.below;
      above = above_middle c.args.values.now c.get.ensures.never_falls v m (subst (λ z. v ≤ℤ z) same over);
      ordered = omega arith;
      within = omega arith;
    }

pub returns-else-low-len : goal.returns-else-low-len
returns-else-low-len c =
    let xs = c.args.values.now in
    let v = c.args.value in
    let passed : to_z w64 (of_z w64 v) ≡ v = to_z-of_z w64 v c.ranges.value in
    none_in xs c.len.ensures.never_falls v c.places.low
    (λ i l. subst (λ z. get_or xs i (pos 0) <ℤ z) passed (c.places.invariant.below i l))
    (λ i le l. subst (λ z. z ≤ℤ get_or xs i (pos 0)) passed (c.places.invariant.above i (let t = c.places-test.false in omega (arith, t, le)) l))
    (λ l e. elim c.else-low-len.branch [
      | else-low-len-via-then-low-len+else-get-value-2 w ↦ w.if-get-value-2.false (ap (of_z w64) (w.get-then-low-len.ensures.value ∙ e))
      | else-low-len-via-else-low-len w ↦ absurd (let t = w.if-low-len.false in let b = c.len.ensures.is in omega (arith, t, b, l))
    ])
