-- a value that a span has is there already; any other is joined with its neighbours
use Rattle.std.proofs.Common.{◌≡◌, ◌+◌, ◌++◌, ◌∷◌, ◌%◌, ◌^◌, ℕ, sym, ◌∙◌, subst, ap, to_z, of_z, w64, IfOk, take, drop, FitsSigned, rules, arith}
use Rattle.std.proofs.lemmas.Int.{ints, to_z-of_z}
use Rattle.values.specs.declared.span_row.Span.{Span}
use Rattle.values.specs.Members.{put_in}
use Rattle.values.specs.Sums.{sum_of}
use Rattle.values.specs.Spans.{StandApart, integers_in}
use Rattle.values.proofs.InSpans.{same_span}
use Rattle.values.proofs.Joining.{apart_before, apart_behind, all_start_behind, apart_with, between, put_in_sides, put_in_there, sum_with}
use Rattle.values.proofs.spans.Spans.with.Goals as goal
use Rattle.values.proofs.spans.Spans.with.Goals.{In_ok-spans}

pub returns-then-starts_by : goal.returns-then-starts_by
returns-then-starts_by c =
    let xs = c.self.inside.spans in
    let v = c.args.value in
    let passed = to_z w64 (of_z w64 v) in
    let same : passed ≡ v = to_z-of_z w64 v c.ranges.value in
    let is : StandApart xs = c.self.invariant.apart in
    let now : integers_in xs ≡ c.args.self.now = c.self.view_is in
    let there = put_in_there xs c.place_of-at.result passed is c.place_of-at.ensures.behind (c.starts_by.ensures.starts c.if-starts_by.true) in
    subst (λ l. IfOk c.copy.result (λ more. more ≡ l)) (sym now ∙ sym there ∙ ap (λ n. put_in n (integers_in xs)) same ∙ ap (put_in v) now) c.copy.ensures

pub start_of-before-requires-clause-apart : goal.start_of-before-requires-clause-apart
start_of-before-requires-clause-apart c =
    apart_before c.self.inside.spans c.place_of-at.result (c.self.invariant.apart)

pub end_of-behind-requires-clause-apart : goal.end_of-behind-requires-clause-apart
end_of-behind-requires-clause-apart c =
    apart_behind c.self.inside.spans c.place_of-at.result (c.self.invariant.apart)

pub end_of-behind-requires-clause-behind : goal.end_of-behind-requires-clause-behind
end_of-behind-requires-clause-behind c =
    all_start_behind c.self.inside.spans c.place_of-at.result (to_z w64 (of_z w64 c.args.value))
    (apart_behind c.self.inside.spans c.place_of-at.result (c.self.invariant.apart))
    (c.starts_by.ensures.later c.if-starts_by.false)

-- the new row made of the old spans
apart : (c : In_ok-spans) → StandApart c.self.inside.spans
apart c = c.self.invariant.apart

abbrev joined_of : In_ok-spans → Span
joined_of c = record { from = c.start_of-before.result.1; to = c.end_of-behind.result.1 }

made : (c : In_ok-spans) → c.in_ok-spans.spans ≡ take c.start_of-before.result.0 c.self.inside.spans ++ joined_of c ∷ drop c.end_of-behind.result.0 c.self.inside.spans
made c =
    let old = c.self.inside.spans in
    let from_fits : FitsSigned w64 c.start_of-before.result.1 = search rules in
    let to_fits : FitsSigned w64 c.end_of-behind.result.1 = search rules in
    let front = take c.start_of-before.result.0 old in
    let back = drop c.end_of-behind.result.0 old in
    c.in_ok-spans.ensures
    ∙ ap (λ s. front ++ s ∷ back) (same_span _ (joined_of c) (to_z-of_z w64 c.start_of-before.result.1 from_fits) (to_z-of_z w64 c.end_of-behind.result.1 to_fits))

now : (c : In_ok-spans) → integers_in c.in_ok-spans.spans ≡ integers_in (take c.place_of-at.result c.self.inside.spans) ++ to_z w64 (of_z w64 c.args.value) ∷ integers_in (drop c.place_of-at.result c.self.inside.spans)
now c =
    let old = c.self.inside.spans in
    ap integers_in (made c)
    ∙ between old c.place_of-at.result (take c.start_of-before.result.0 old) (drop c.end_of-behind.result.0 old) (joined_of c) (to_z w64 (of_z w64 c.args.value)) c.start_of-before.ensures.reaches
    c.end_of-behind.ensures.reaches c.start_of-before.ensures.integers c.end_of-behind.ensures.integers

pub invariant_of-result : goal.invariant_of-result
invariant_of-result c =
    let i = (goal.at.invariant_of-result c).In_ok-spans in
    let old = c.self.inside.spans in
    let passed = to_z w64 (of_z w64 c.args.value) in
    let low = c.start_of-before.ensures.reaches in
    let high = c.end_of-behind.ensures.reaches in
    let b = c.start_of-before.ensures.within in
    let e = c.end_of-behind.ensures.follows in
    record {
      apart = subst StandApart (sym (made i))
          (apart_with old c.start_of-before.result.0 c.end_of-behind.result.0 (joined_of i) (apart i) (omega (arith, b, e)) (omega (arith, ints, low, high)) c.start_of-before.ensures.apart c.end_of-behind.ensures.apart);
      sums = ap (λ (n : ℕ). (n + c.mixed.result) % 2 ^ 128) c.self.invariant.sums
          ∙ ap (λ (n : ℕ). (sum_of (integers_in old) + n) % 2 ^ 128) c.mixed.ensures ∙ sym (sum_with old c.place_of-at.result passed) ∙ ap sum_of (sym (now i));
    }

pub returns : goal.returns
returns c =
    let i = (goal.at.returns c).In_ok-spans in
    let old = c.self.inside.spans in
    let v = c.args.value in
    let passed = to_z w64 (of_z w64 v) in
    let same : passed ≡ v = to_z-of_z w64 v c.ranges.value in
    let value : integers_in old ≡ c.args.self.now = c.self.view_is in
    now i
    ∙ put_in_sides old c.place_of-at.result passed (apart i) c.place_of-at.ensures.before
    (all_start_behind old c.place_of-at.result passed (apart_behind old c.place_of-at.result (apart i)) (c.starts_by.ensures.later c.if-starts_by.false))
    ∙ ap (λ n. put_in n (integers_in old)) same ∙ ap (put_in v) value
