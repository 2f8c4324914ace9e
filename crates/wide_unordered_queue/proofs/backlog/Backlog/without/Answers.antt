use Rattle.std.proofs.Common.{pos, ◌≡◌, ◌<◌, length, get_or, sym, ◌∙◌, subst, ap, to_z, of_z, w64}
use Rattle.std.proofs.lemmas.Int.{to_z-of_z}
use Rattle.std.proofs.lemmas.Bool.{true≢false}
use Rattle.values.specs.Multisets.{NeverFalls, without_one}
use Rattle.values.proofs.Bags.{NeverFalls-remove}
use Rattle.wide_unordered_queue.proofs.Places.{IsPlace, without_here, without_none}
use Rattle.wide_unordered_queue.proofs.backlog.Backlog.without.Goals as goal

pub invariant_of-result : goal.invariant_of-result
invariant_of-result c = subst NeverFalls (sym c.in_ok-row.ensures) (NeverFalls-remove c.self.inside.row c.place_of-at.result c.self.invariant)

pub returns-then-is_at : goal.returns-then-is_at
returns-then-is_at c =
    let v = c.args.value in
    let passed = to_z w64 (of_z w64 v) in
    let same : passed ≡ v = to_z-of_z w64 v c.ranges.value in
    let xs = c.self.inside.row in
    let at = c.place_of-at in
    let place : IsPlace xs passed at.result = record { within = at.ensures.within; before = λ k. at.ensures.before k (pos 0); there = at.ensures.there (pos 0) } in
    let here = c.is_at.ensures.0 c.if-is_at.true in
    let fits : at.result < length xs = subst (λ l. at.result < length l) (sym c.self.view_is) here.0 in
    let is : get_or xs at.result passed ≡ passed = subst (λ l. get_or l at.result passed ≡ passed) (sym c.self.view_is) here.1 in
    c.in_ok-row.ensures ∙ without_here xs c.self.invariant passed at.result place fits is ∙ ap (λ z. without_one z xs) same ∙ ap (without_one v) c.self.view_is

pub returns : goal.returns
returns c =
    let v = c.args.value in
    let passed = to_z w64 (of_z w64 v) in
    let same : passed ≡ v = to_z-of_z w64 v c.ranges.value in
    let xs = c.self.inside.row in
    let at = c.place_of-at in
    let place : IsPlace xs passed at.result = record { within = at.ensures.within; before = λ k. at.ensures.before k (pos 0); there = at.ensures.there (pos 0) } in
    let none : ¬ ((at.result < length xs) × (get_or xs at.result passed ≡ passed)) = λ h. true≢false (sym (c.is_at.ensures.1 (subst (λ l. (at.result < length l) × (get_or l at.result passed ≡ passed)) c.self.view_is h)) ∙ c.if-is_at.false) in
    c.in_ok-same.ensures ∙ sym c.self.view_is ∙ without_none xs c.self.invariant passed at.result place none ∙ ap (λ z. without_one z xs) same ∙ ap (without_one v) c.self.view_is
