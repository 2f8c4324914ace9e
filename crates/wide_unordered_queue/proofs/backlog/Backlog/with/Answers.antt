use Rattle.std.proofs.Common.{pos, ◌≡◌, sym, ◌∙◌, subst, ap, to_z, of_z, w64}
use Rattle.std.specs.List.{insert}
use Rattle.std.proofs.lemmas.Int.{to_z-of_z}
use Rattle.values.specs.Multisets.{NeverFalls, with_one}
use Rattle.values.proofs.Bags.{NeverFalls-with_one}
use Rattle.values.proofs.Past.{with_one-place}
use Rattle.wide_unordered_queue.proofs.backlog.Backlog.with.Goals as goal

pub invariant_of-result : goal.invariant_of-result
invariant_of-result c =
    let passed = to_z w64 (of_z w64 c.args.value) in
    let xs = c.self.inside.row in
    let at = c.place_of-at in
    let placed : insert xs at.result passed ≡ with_one passed xs = with_one-place xs at.result passed c.self.invariant at.ensures.within (λ k. at.ensures.before k (pos 0)) (at.ensures.there (pos 0)) in
    subst NeverFalls (sym (c.in_ok-row.ensures ∙ placed)) (NeverFalls-with_one passed xs c.self.invariant)

pub returns : goal.returns
returns c =
    let v = c.args.value in
    let passed = to_z w64 (of_z w64 v) in
    let xs = c.self.inside.row in
    let at = c.place_of-at in
    c.in_ok-row.ensures ∙ with_one-place xs at.result passed c.self.invariant at.ensures.within (λ k. at.ensures.before k (pos 0)) (at.ensures.there (pos 0))
    ∙ ap (λ z. with_one z xs) (to_z-of_z w64 v c.ranges.value) ∙ ap (with_one v) c.self.view_is
