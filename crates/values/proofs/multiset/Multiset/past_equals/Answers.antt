-- the values from this place on up to the place behind are equal, since they never fall
use Rattle.std.proofs.Common.{rules, ◌≡◌, ◌≢◌, ◌+◌, ◌-◌, ◌<◌, ◌≤◌, ◌+ℤ◌, ◌<ℤ◌, ◌≤ℤ◌, ℤ, pos, get_or, length, take, sym, ap, subst, ◌∙◌, FitsSigned, to_z, of_z, w64, arith}
use Rattle.std.proofs.lemmas.Int.{ints, to_z-of_z}
use Rattle.values.specs.Multisets.{values_of}
use Rattle.values.proofs.Firsts.{strictly}
use Rattle.values.proofs.Past.{IsPast, no_higher, past_last, past_place}
use Rattle.values.proofs.multiset.Multiset.past_equals.Goals as goal

-- a value below another one has a next one
next_fits : (v last : ℤ) → FitsSigned w64 v → FitsSigned w64 last → v ≤ℤ last → v ≢ last → FitsSigned w64 (to_z w64 (of_z w64 v) +ℤ pos 1)
next_fits v last fits last_fits h other =
    let less : v <ℤ last = strictly v last h other in
    subst (λ z. FitsSigned w64 (z +ℤ pos 1)) (sym (to_z-of_z w64 v fits)) (omega (arith, ints, less, fits, last_fits))

pub returns-then-get-value-clause-same : goal.returns-then-get-value-clause-same
returns-then-get-value-clause-same c =
    let xs = c.self.inside.values in
    let fits : c.args.at < length xs = subst (λ l. c.args.at < length l) (sym c.self.view_is) c.requires in
    let equal : c.get.result ≡ c.get-value.result = search rules in
    subst (λ l. values_of (take c.len-many.result l) ≡ values_of (take (c.args.at + 1) l)) c.self.view_is
    (past_last xs c.args.at c.len-many.result c.self.invariant.never_falls fits c.len-many.ensures (sym (c.get.ensures (pos 0)) ∙ equal ∙ c.get-value.ensures (pos 0)))

pub overflow_add-value : goal.overflow_add-value
overflow_add-value c =
    let xs = c.self.inside.values in
    let many = c.len-many.result in
    let len = c.len-many.ensures in
    let fits : c.args.at < length xs = subst (λ l. c.args.at < length l) (sym c.self.view_is) c.requires in
    let value_fits : FitsSigned w64 c.get-value.result = search rules in
    let last_fits : FitsSigned w64 c.get.result = search rules in
    let h : c.get-value.result ≤ℤ c.get.result = subst (λ z. z ≤ℤ c.get.result) (sym (c.get-value.ensures (pos 0)))
    (subst (λ z. get_or xs c.args.at (pos 0) ≤ℤ z) (sym (c.get.ensures (pos 0))) (no_higher xs c.self.invariant.never_falls c.args.at (many - 1) (omega (arith, fits, len)) (omega (arith, fits, len)))) in
    next_fits c.get-value.result c.get.result value_fits last_fits h (λ e. c.if-get-value.false (ap (of_z w64) (sym e)))

pub returns : goal.returns
returns c =
    let xs = c.self.inside.values in
    let many = c.len-many.result in
    let len = c.len-many.ensures in
    let v = c.get-value.result in
    let fits : c.args.at < length xs = subst (λ l. c.args.at < length l) (sym c.self.view_is) c.requires in
    let value_fits : FitsSigned w64 v = search rules in
    let last_fits : FitsSigned w64 c.get.result = search rules in
    let h : v ≤ℤ c.get.result = subst (λ z. z ≤ℤ c.get.result) (sym (c.get-value.ensures (pos 0)))
    (subst (λ z. get_or xs c.args.at (pos 0) ≤ℤ z) (sym (c.get.ensures (pos 0))) (no_higher xs c.self.invariant.never_falls c.args.at (many - 1) (omega (arith, fits, len)) (omega (arith, fits, len)))) in
    let more : FitsSigned w64 (to_z w64 (of_z w64 v) +ℤ pos 1) = next_fits v c.get.result value_fits last_fits h (λ e. c.if-get-value.false (ap (of_z w64) (sym e))) in
    let next = to_z w64 (of_z w64 (to_z w64 (of_z w64 v) +ℤ pos 1)) in
    let one : next ≡ v +ℤ pos 1 = to_z-of_z w64 (to_z w64 (of_z w64 v) +ℤ pos 1) more ∙ ap (λ z. z +ℤ pos 1) (to_z-of_z w64 v value_fits) in
    let p : IsPast c.args.self.now c.args.at c.place_of.result = subst (λ l. IsPast l c.args.at c.place_of.result) c.self.view_is
    (past_place xs c.args.at c.place_of.result v next c.self.invariant.never_falls fits (c.get-value.ensures (pos 0)) one
    c.place_of.ensures.within (λ k. c.place_of.ensures.before k (pos 0)) (c.place_of.ensures.there (pos 0))) in
    record {
      later = p.later;
      within = subst (λ l. c.place_of.result ≤ length l) c.self.view_is c.place_of.ensures.within;
      same = p.same;
      new = p.new;
    }
