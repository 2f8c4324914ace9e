-- a place among the last integers, which ascend
use Rattle.std.proofs.Common.{◌<ℤ◌, ◌≤ℤ◌, subst, sym, w64, get_or, take, drop}
use Rattle.std.specs.List.{Contains}
use Rattle.std.proofs.lemmas.Int.{to_z-of_z}
use Rattle.values.specs.Spans.{StandApart}
use Rattle.values.proofs.Joining.{end_before_place, end_behind_place}
use Rattle.values.proofs.span_row.SpanRow.place_of.Goals as goal

pub returns-clause-before : goal.returns-clause-before
returns-clause-before c span has =
    let xs = c.self.inside.spans in
    let n = c.place_of.result in
    let v = c.args.value in
    end_before_place xs (subst StandApart (sym c.self.view_is) c.requires) n v c.place_of.ensures.within
    (λ k d e. subst (λ z. (get_or xs k d).to <ℤ z) (to_z-of_z w64 v c.ranges.value) (c.place_of.ensures.before k d e))
    span (subst (λ l. Contains (take n l) span) (sym c.self.view_is) has)

pub returns-clause-behind : goal.returns-clause-behind
returns-clause-behind c span has =
    let xs = c.self.inside.spans in
    let n = c.place_of.result in
    let v = c.args.value in
    end_behind_place xs (subst StandApart (sym c.self.view_is) c.requires) n v c.place_of.ensures.within
    (λ d h. subst (λ z. z ≤ℤ (get_or xs n d).to) (to_z-of_z w64 v c.ranges.value) (c.place_of.ensures.there d h))
    span (subst (λ l. Contains (drop n l) span) (sym c.self.view_is) has)
