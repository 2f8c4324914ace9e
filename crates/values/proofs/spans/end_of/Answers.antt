-- the first span from the place on is joined if it starts next to the value
use Rattle.std.proofs.Common.{◌≡◌, ◌≢◌, ◌+◌, ◌<ℤ◌, ◌≤ℤ◌, ◌+ℤ◌, ◌-ℤ◌, ◌++◌, ◌∷◌, pos, get_or, drop, FitsSigned, to_z, of_z, w64, rules, sym, ap, ◌∙◌, subst, arith}
use Rattle.std.specs.List.{Contains}
use Rattle.std.proofs.lemmas.Int.{ints, to_z-of_z}
use Rattle.std.proofs.lemmas.List.{drop_more}
use Rattle.values.specs.declared.span_row.Span.{Span}
use Rattle.values.specs.Spans.{StartBehind, StandApart, integers_in, from_to}
use Rattle.values.proofs.PutIn.{first_member}
use Rattle.values.proofs.Joining.{starts_behind_alone}
use Rattle.values.proofs.spans.end_of.Goals as goal
use Rattle.values.proofs.spans.end_of.Goals.{Then-at-len}

abbrev some : Span
some = record { from = pos 0; to = pos 0 }

abbrev next_of : Then-at-len → Span
next_of c = get_or c.args.spans.now c.args.at some

split : (c : Then-at-len) → drop c.args.at c.args.spans.now ≡ next_of c ∷ drop (c.args.at + 1) c.args.spans.now
split c = drop_more c.args.spans.now c.args.at some (let h = c.if-at-len.true in let e = c.len.ensures in omega (arith, h, e))

above : (c : Then-at-len) → c.args.value <ℤ (next_of c).from
above c = c.requires.behind (next_of c) (subst (λ l. Contains l (next_of c)) (sym (split c)) (first_member (next_of c) (drop (c.args.at + 1) c.args.spans.now)))

apart : (c : Then-at-len) → StandApart (next_of c ∷ drop (c.args.at + 1) c.args.spans.now)
apart c = subst StandApart (split c) c.requires.apart

pub overflow_sub-next : goal.overflow_sub-next
overflow_sub-next c =
    let i = (goal.at.overflow_sub-next c).Then-at-len in
    let l = above i in
    let v_fits : FitsSigned w64 c.args.value = c.ranges.value in
    let fits : FitsSigned w64 c.first_at-next.result = search rules in
    let from_is : to_z w64 (of_z w64 c.first_at-next.result) ≡ (next_of i).from = to_z-of_z w64 c.first_at-next.result fits ∙ c.first_at-next.ensures some in
    omega (arith, ints, l, from_is, fits)

pub returns-then-next-value-clause-reaches : goal.returns-then-next-value-clause-reaches
returns-then-next-value-clause-reaches c =
    let i = (goal.at.returns-then-next-value-clause-reaches c).Then-at-len in
    let l = above i in
    let n : (next_of i).from ≤ℤ (next_of i).to = (apart i).0 in
    let fits : FitsSigned w64 c.last_at.result = search rules in
    let to_is : to_z w64 (of_z w64 c.last_at.result) ≡ (next_of i).to = to_z-of_z w64 c.last_at.result fits ∙ c.last_at.ensures some in
    omega (arith, ints, l, n, to_is)

pub returns-then-next-value-clause-apart : goal.returns-then-next-value-clause-apart
returns-then-next-value-clause-apart c =
    let i = (goal.at.returns-then-next-value-clause-apart c).Then-at-len in
    let fits : FitsSigned w64 c.last_at.result = search rules in
    let to_is : to_z w64 (of_z w64 c.last_at.result) ≡ (next_of i).to = to_z-of_z w64 c.last_at.result fits ∙ c.last_at.ensures some in
    subst (StartBehind (drop (c.args.at + 1) c.args.spans.now)) (sym to_is) (apart i).1

pub returns-then-next-value-clause-integers : goal.returns-then-next-value-clause-integers
returns-then-next-value-clause-integers c =
    let i = (goal.at.returns-then-next-value-clause-integers c).Then-at-len in
    let rest = integers_in (drop (c.args.at + 1) c.args.spans.now) in
    let fits : FitsSigned w64 c.last_at.result = search rules in
    let to_is : to_z w64 (of_z w64 c.last_at.result) ≡ (next_of i).to = to_z-of_z w64 c.last_at.result fits ∙ c.last_at.ensures some in
    let from_fits : FitsSigned w64 c.first_at-next.result = search rules in
    let from_is : c.first_at-next.result ≡ (next_of i).from = c.first_at-next.ensures some in
    let v_fits : FitsSigned w64 c.args.value = c.ranges.value in
    let l = above i in
    let beside : (next_of i).from ≡ c.args.value +ℤ pos 1 = omega (arith, ints, l, from_is, c.if-next-value.true) in
    ap integers_in (split i) ∙ ap (λ z. from_to z (next_of i).to ++ rest) beside
    ∙ ap (λ z. from_to (c.args.value +ℤ pos 1) z ++ rest) (sym to_is)

pub returns-else-next-value-clause-apart : goal.returns-else-next-value-clause-apart
returns-else-next-value-clause-apart c =
    let i = (goal.at.returns-else-next-value-clause-apart c).Then-at-len in
    let v_fits : FitsSigned w64 c.args.value = c.ranges.value in
    let l = above i in
    let from_fits : FitsSigned w64 c.first_at-next.result = search rules in
    let from_is : to_z w64 (of_z w64 c.first_at-next.result) ≡ (next_of i).from = to_z-of_z w64 c.first_at-next.result from_fits ∙ c.first_at-next.ensures some in
    let other : c.args.value +ℤ pos 1 ≢ (next_of i).from = (λ e. c.if-next-value.false (ap (of_z w64) (let f : to_z w64 (of_z w64 c.first_at-next.result) -ℤ pos 1 ≡ c.args.value = omega (arith, ints, e, from_is) in f))) in
    subst (StartBehind (drop c.args.at c.args.spans.now)) (sym (to_z-of_z w64 c.args.value v_fits))
    (subst (λ m. StartBehind m c.args.value) (sym (split i)) (starts_behind_alone (next_of i) (drop (c.args.at + 1) c.args.spans.now) c.args.value (apart i) l other))
