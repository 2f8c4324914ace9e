-- the last span before the place is joined if it ends next to the value
use Rattle.std.proofs.Common.{◌≡◌, ◌≢◌, ◌-◌, ◌<ℤ◌, ◌≤ℤ◌, ◌+ℤ◌, ◌-ℤ◌, ◌++◌, ◌∷◌, [], pos, get_or, take, FitsSigned, to_z, of_z, w64, rules, sym, ap, ◌∙◌, subst, arith}
use Rattle.std.specs.List.{Contains}
use Rattle.std.proofs.lemmas.Int.{ints, to_z-of_z}
use Rattle.values.specs.declared.span_row.Span.{Span}
use Rattle.values.specs.Spans.{EndBefore, StandApart, integers_in, from_to}
use Rattle.values.proofs.InSpans.{not_empty, apart_across}
use Rattle.values.proofs.PutIn.{first_member}
use Rattle.values.proofs.Joining.{last_split, last_member, starts_at_last, ends_before_alone}
use Rattle.values.proofs.spans.start_of.Goals as goal
use Rattle.values.proofs.spans.start_of.Goals.{Then-at-gt0}

abbrev some : Span
some = record { from = pos 0; to = pos 0 }

abbrev last_of : Then-at-gt0 → Span
last_of c = get_or c.args.spans.now (c.args.at - 1) some

split : (c : Then-at-gt0) → take c.args.at c.args.spans.now ≡ take (c.args.at - 1) c.args.spans.now ++ last_of c ∷ []
split c = last_split c.args.spans.now c.args.at some c.if-at-gt0.true c.requires.place

below : (c : Then-at-gt0) → (last_of c).to <ℤ c.args.value
below c = c.requires.before (last_of c) (subst (λ l. Contains l (last_of c)) (sym (split c)) (last_member (take (c.args.at - 1) c.args.spans.now) (last_of c)))

apart : (c : Then-at-gt0) → StandApart (take (c.args.at - 1) c.args.spans.now ++ last_of c ∷ [])
apart c = subst StandApart (split c) c.requires.apart

not_turned : (c : Then-at-gt0) → (last_of c).from ≤ℤ (last_of c).to
not_turned c = not_empty (take (c.args.at - 1) c.args.spans.now ++ last_of c ∷ []) (apart c) (last_of c) (last_member (take (c.args.at - 1) c.args.spans.now) (last_of c))

pub overflow_add-last : goal.overflow_add-last
overflow_add-last c =
    let i = (goal.at.overflow_add-last c).Then-at-gt0 in
    let l = below i in
    let v_fits : FitsSigned w64 c.args.value = c.ranges.value in
    let fits : FitsSigned w64 c.last_at-last.result = search rules in
    let to_is : to_z w64 (of_z w64 c.last_at-last.result) ≡ (last_of i).to = to_z-of_z w64 c.last_at-last.result fits ∙ c.last_at-last.ensures some in
    omega (arith, ints, l, to_is, fits)

pub returns-then-last-value-clause-reaches : goal.returns-then-last-value-clause-reaches
returns-then-last-value-clause-reaches c =
    let i = (goal.at.returns-then-last-value-clause-reaches c).Then-at-gt0 in
    let l = below i in
    let n = not_turned i in
    let fits : FitsSigned w64 c.first_at.result = search rules in
    let from_is : to_z w64 (of_z w64 c.first_at.result) ≡ (last_of i).from = to_z-of_z w64 c.first_at.result fits ∙ c.first_at.ensures some in
    omega (arith, ints, l, n, from_is)

pub returns-then-last-value-clause-apart : goal.returns-then-last-value-clause-apart
returns-then-last-value-clause-apart c =
    let i = (goal.at.returns-then-last-value-clause-apart c).Then-at-gt0 in
    let fits : FitsSigned w64 c.first_at.result = search rules in
    let from_is : to_z w64 (of_z w64 c.first_at.result) ≡ (last_of i).from = to_z-of_z w64 c.first_at.result fits ∙ c.first_at.ensures some in
    λ span h. subst (λ z. (span.to +ℤ pos 1) <ℤ z) (sym from_is)
    (apart_across (take (c.args.at - 1) c.args.spans.now) (last_of i ∷ []) (apart i) span (last_of i) h (first_member (last_of i) []))

pub returns-then-last-value-clause-integers : goal.returns-then-last-value-clause-integers
returns-then-last-value-clause-integers c =
    let i = (goal.at.returns-then-last-value-clause-integers c).Then-at-gt0 in
    let xs = take (c.args.at - 1) c.args.spans.now in
    let fits : FitsSigned w64 c.first_at.result = search rules in
    let from_is : to_z w64 (of_z w64 c.first_at.result) ≡ (last_of i).from = to_z-of_z w64 c.first_at.result fits ∙ c.first_at.ensures some in
    let to_fits : FitsSigned w64 c.last_at-last.result = search rules in
    let to_is : c.last_at-last.result ≡ (last_of i).to = c.last_at-last.ensures some in
    let v_fits : FitsSigned w64 c.args.value = c.ranges.value in
    let l = below i in
    let beside : (last_of i).to +ℤ pos 1 ≡ c.args.value = omega (arith, ints, l, to_is, c.if-last-value.true) in
    ap integers_in (split i) ∙ starts_at_last xs (last_of i) c.args.value beside
    ∙ ap (λ z. integers_in xs ++ from_to z (c.args.value -ℤ pos 1)) (sym from_is)

pub returns-else-last-value-clause-apart : goal.returns-else-last-value-clause-apart
returns-else-last-value-clause-apart c =
    let i = (goal.at.returns-else-last-value-clause-apart c).Then-at-gt0 in
    let xs = take (c.args.at - 1) c.args.spans.now in
    let to_fits : FitsSigned w64 c.last_at-last.result = search rules in
    let to_is : to_z w64 (of_z w64 c.last_at-last.result) ≡ (last_of i).to = to_z-of_z w64 c.last_at-last.result to_fits ∙ c.last_at-last.ensures some in
    let v_fits : FitsSigned w64 c.args.value = c.ranges.value in
    let l = below i in
    let other : (last_of i).to +ℤ pos 1 ≢ c.args.value = (λ e. c.if-last-value.false (ap (of_z w64) (ap (λ z. z +ℤ pos 1) to_is ∙ e))) in
    subst (EndBefore (take c.args.at c.args.spans.now)) (sym (to_z-of_z w64 c.args.value v_fits))
    (subst (λ m. EndBefore m c.args.value) (sym (split i)) (ends_before_alone xs (last_of i) c.args.value (apart i) l other))
