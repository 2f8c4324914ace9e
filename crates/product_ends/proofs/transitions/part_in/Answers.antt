use Rattle.std.proofs.Common.{◌≡◌, ◌<◌, ◌≤◌, ◌+◌, ◌-◌, ◌%◌, ◌^◌, ℕ, List, Option, None, Some, IfSome, length, slice_range, get_or, sym, ◌∙◌, ap, arith}
use Rattle.std.specs.Option.{MatchOption}
use Rattle.std.specs.Borrow.{Bor}
use Rattle.product_ends.proofs.transitions.part_in.Goals as goal

-- a sum that wraps is before its first part
not_wrapped : (first calls : ℕ) → calls < 2 ^ 64 → first ≤ (first + calls) % 2 ^ 64 → (first + calls) % 2 ^ 64 ≡ first + calls
not_wrapped first calls less le = omega arith

-- the part of the list that is read
part : {X : Type 0} (items : List X) (first calls order : ℕ) (r : Option (Bor (List X))) (P : Type 0) → order ≡ first + 1 → calls < 2 ^ 64
    → MatchOption r P (λ those. (first ≤ (first + calls) % 2 ^ 64) × ((first + calls) % 2 ^ 64 ≤ length items) × (those.now ≡ slice_range items first ((first + calls) % 2 ^ 64)) × (length those.now + first ≡ (first + calls) % 2 ^ 64))
    → IfSome r (λ those. (x : ℕ) × (order ≡ x + 1) × (those.now ≡ slice_range items x (x + calls)) × (length those.now ≡ calls))
part items first calls order None P is less h = tt
part items first calls order (Some those) P is less h =
    let end = not_wrapped first calls less h.0 in
    let long = h.3 in
    (first, is, h.2 ∙ ap (slice_range items first) end, omega (arith, long, end))

-- it is there
within_items : (first calls long : ℕ) → first + calls ≤ long → long < 2 ^ 64 → (first ≤ (first + calls) % 2 ^ 64) × ((first + calls) % 2 ^ 64 ≤ long)
within_items first calls long le lt = (omega arith, omega arith)

pub returns-in-Some-clause-some : goal.returns-in-Some-clause-some
returns-in-Some-clause-some g c =
    let order = c.in-Some.order.now in
    let positive = c.if-order-gt0.true in
    let is : get_or c.args.order.now c.args.number 0 ≡ order = sym (c.in-Some.ensures.lookup.3.1 0) in
    part c.args.all.now (order - 1) c.args.call_count (get_or c.args.order.now c.args.number 0) c.get-in-Some.result _ (omega (arith, is, positive)) c.ranges.call_count.fits
    c.get-in-Some.ensures.lookup.0

pub returns-in-Some-clause-within : goal.returns-in-Some-clause-within
returns-in-Some-clause-within g c some within =
    let order = c.in-Some.order.now in
    let positive = c.if-order-gt0.true in
    let is : get_or c.args.order.now c.args.number 0 ≡ order = sym (c.in-Some.ensures.lookup.3.1 0) in
    let le : order - 1 + c.args.call_count ≤ length c.args.all.now = omega (arith, is, positive, within) in
    c.get-in-Some.ensures.lookup.1 (within_items (order - 1) c.args.call_count (length c.args.all.now) le c.requires)
