use Rattle.std.proofs.Common.{pos, ◌≡◌, ◌+◌, ◌%◌, ◌^◌, ℕ, sym, ◌∙◌, subst, ap, to_z, of_z, w64}
use Rattle.std.specs.List.{insert}
use Rattle.std.proofs.lemmas.Int.{to_z-of_z}
use Rattle.values.specs.Multisets.{NeverFalls, with_one}
use Rattle.values.specs.Sums.{sum_of}
use Rattle.values.proofs.Bags.{NeverFalls-with_one}
use Rattle.values.proofs.Past.{with_one-place}
use Rattle.values.proofs.Sums.{sum_of-insert}
use Rattle.values.proofs.multiset.Multiset.with.Goals as goal

pub invariant_of-result : goal.invariant_of-result
invariant_of-result c =
    let passed = to_z w64 (of_z w64 c.args.value) in
    let xs = c.self.inside.values in
    let at = c.place_of-at in
    let is = c.self.invariant.never_falls in
    let placed : insert xs at.result passed ≡ with_one passed xs = with_one-place xs at.result passed is at.ensures.within (λ k. at.ensures.before k (pos 0)) (at.ensures.there (pos 0)) in
    record {
      never_falls = subst NeverFalls (sym (c.in_ok-values.ensures ∙ placed)) (NeverFalls-with_one passed xs is);
      sums = ap (λ (n : ℕ). (n + c.mixed.result) % 2 ^ 128) c.self.invariant.sums ∙ ap (λ (n : ℕ). (sum_of xs + n) % 2 ^ 128) c.mixed.ensures
          ∙ sym (sum_of-insert xs at.result passed at.ensures.within) ∙ ap sum_of (sym c.in_ok-values.ensures);
    }

pub returns : goal.returns
returns c =
    let v = c.args.value in
    let passed = to_z w64 (of_z w64 v) in
    let xs = c.self.inside.values in
    let at = c.place_of-at in
    c.in_ok-values.ensures ∙ with_one-place xs at.result passed c.self.invariant.never_falls at.ensures.within (λ k. at.ensures.before k (pos 0)) (at.ensures.there (pos 0))
    ∙ ap (λ z. with_one z xs) (to_z-of_z w64 v c.ranges.value) ∙ ap (with_one v) c.self.view_is
