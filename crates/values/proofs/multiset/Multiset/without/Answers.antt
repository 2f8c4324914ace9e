use Rattle.std.proofs.Common.{rules, ◌≡◌, ◌+◌, ◌-◌, ◌<◌, ◌%◌, ◌^◌, ℕ, pos, get_or, length, remove, sym, ◌∙◌, ap, subst, FitsSigned, w64}
use Rattle.std.proofs.lemmas.Int.{to_z-of_z}
use Rattle.values.specs.Multisets.{NeverFalls}
use Rattle.values.specs.Sums.{mixed, sum_of}
use Rattle.values.proofs.Bags.{NeverFalls-remove}
use Rattle.values.proofs.Sums.{sum_of-remove}
use Rattle.values.proofs.multiset.Multiset.without.Goals as goal

pub invariant_of-result : goal.invariant_of-result
invariant_of-result c =
    let xs = c.self.inside.values in
    let at = c.args.at in
    let v = get_or xs at (pos 0) in
    let fits : at < length xs = subst (λ l. at < length l) (sym c.self.view_is) c.requires in
    let value = c.get-value.result in
    let value_fits : FitsSigned w64 value = search rules in
    let here : c.mixed.result ≡ mixed v = c.mixed.ensures ∙ ap mixed (to_z-of_z w64 value value_fits ∙ c.get-value.ensures (pos 0)) in
    let bound : c.mixed.result < 2 ^ 128 = search rules in
    record {
      never_falls = subst NeverFalls (sym c.in_ok-values.ensures) (NeverFalls-remove xs at c.self.invariant.never_falls);
      sums = ap (λ (n : ℕ). (c.self.inside.sum + (2 ^ 128 - n)) % 2 ^ 128) here ∙ ap (λ (n : ℕ). (n + (2 ^ 128 - mixed v)) % 2 ^ 128) c.self.invariant.sums
          ∙ sum_of-remove xs at (pos 0) fits (subst (λ n. n < 2 ^ 128) here bound) ∙ ap sum_of (sym c.in_ok-values.ensures);
    }

pub returns : goal.returns
returns c = c.in_ok-values.ensures ∙ ap (λ l. remove l c.args.at) c.self.view_is
