-- each integer is pushed in turn, up to the last
use Rattle.std.proofs.Common.{◌≡◌, ◌≢◌, ◌<◌, ◌^◌, ◌<ℤ◌, ◌≤ℤ◌, ◌+ℤ◌, ◌-ℤ◌, ◌++◌, ℤ, pos, FitsSigned, to_z, of_z, w64, rules, sym, ap, ◌∙◌, subst, arith}
use Rattle.std.proofs.lemmas.Int.{ints, by_lt_z, to_z-of_z, of_z-to_z}
use Rattle.values.specs.Spans.{from_to}
use Rattle.values.proofs.Joining.{pushed}
use Rattle.values.proofs.spans.append_integers.Goals as goal
use Rattle.values.proofs.spans.append_integers.Goals.{In_ok-push}

now : (c : In_ok-push) → c.push.new.self.items ≡ c.args.items.now.items ++ from_to c.args.from (to_z w64 c.loop-value.value-bits)
now c =
    let from_is : to_z w64 (of_z w64 c.args.from) ≡ c.args.from = to_z-of_z w64 c.args.from c.ranges.from in
    pushed c.args.items.now.items c.loop-value.items.items c.push.new.self.items c.args.from (to_z w64 c.loop-value.value-bits)
    (let h = c.loop-value.invariant.above in omega (arith, ints, h))
    (c.loop-value.invariant.so_far ∙ ap (λ z. c.args.items.now.items ++ from_to z (to_z w64 c.loop-value.value-bits -ℤ pos 1)) from_is)
    c.in_ok-push.ensures.items

pub returns-then-value-to : goal.returns-then-value-to
returns-then-value-to c =
    let i = (goal.at.returns-then-value-to c).In_ok-push in
    let e : to_z w64 c.loop-value.value-bits ≡ c.args.to = ap (to_z w64) c.if-value-to.true ∙ to_z-of_z w64 c.args.to c.ranges.to in
    now i ∙ ap (λ z. c.args.items.now.items ++ from_to c.args.from z) e

next_fits : (z last : ℤ) → FitsSigned w64 z → FitsSigned w64 last → z ≤ℤ last → z ≢ last → (to_z w64 (of_z w64 (z +ℤ pos 1)) ≡ z +ℤ pos 1) × ((z +ℤ pos 1) ≤ℤ last)
next_fits z last fits last_fits h other =
    let l : z <ℤ last = by_lt_z z last (λ k. k) (λ k. absurd (other (omega (arith, ints, h, k)))) in
    let more : FitsSigned w64 (z +ℤ pos 1) = omega (arith, ints, l, fits, last_fits) in
    (to_z-of_z w64 (z +ℤ pos 1) more, omega (arith, ints, l))

pub loop-value-preserved : goal.loop-value-preserved
loop-value-preserved c =
    let i = (goal.at.loop-value-preserved c).In_ok-push in
    let z = to_z w64 c.loop-value.value-bits in
    let from_is : to_z w64 (of_z w64 c.args.from) ≡ c.args.from = to_z-of_z w64 c.args.from c.ranges.from in
    let to_is : to_z w64 (of_z w64 c.args.to) ≡ c.args.to = to_z-of_z w64 c.args.to c.ranges.to in
    let fits : FitsSigned w64 z = search rules in
    let bits : c.loop-value.value-bits < 2 ^ 64 = search rules in
    let within : z ≤ℤ c.args.to = subst (λ y. z ≤ℤ y) to_is c.loop-value.invariant.within in
    let above : to_z w64 (of_z w64 c.args.from) ≤ℤ z = c.loop-value.invariant.above in
    let next = next_fits z c.args.to fits c.ranges.to within (λ e. c.if-value-to.false (sym (of_z-to_z w64 c.loop-value.value-bits bits) ∙ ap (of_z w64) e)) in
    let one_more : z ≡ to_z w64 (of_z w64 (z +ℤ pos 1)) -ℤ pos 1 = let e = next.0 in omega (arith, ints, e) in
    record {
      above = subst (λ y. to_z w64 (of_z w64 c.args.from) ≤ℤ y) (sym next.0) (omega (arith, ints, above));
      within = subst (λ y. y ≤ℤ to_z w64 (of_z w64 c.args.to)) (sym next.0) (subst (λ y. (z +ℤ pos 1) ≤ℤ y) (sym to_is) next.1);
      so_far = now i ∙ ap (λ y. c.args.items.now.items ++ from_to y z) (sym from_is)
          ∙ ap (λ y. c.args.items.now.items ++ from_to (to_z w64 (of_z w64 c.args.from)) y) one_more;
    }
