use Rattle.std.proofs.Common.{pos, rules, ◌≡◌, ◌+◌, ◌<◌, ◌∷◌, drop, length, sym, ap, subst, ◌∙◌, FitsSigned, to_z, of_z, w64, arith}
use Rattle.std.proofs.lemmas.Int.{to_z-of_z}
use Rattle.values.specs.Rolled.{power, rolled}
use Rattle.values.proofs.Rolling.{first_and_rest}
use Rattle.values.proofs.items.Items.without_front.Goals as goal

pub invariant_of-result : goal.invariant_of-result
invariant_of-result c =
    let xs = c.self.inside.items in
    let rest = drop 1 xs in
    let some : 0 < length xs = subst (λ l. 0 < length l) (sym c.self.view_is) c.requires in
    let first = c.first-front.result in
    let passed = to_z w64 (of_z w64 first) in
    let fits : FitsSigned w64 first = search rules in
    let front : passed ≡ first = to_z-of_z w64 first fits in
    let parts : xs ≡ passed ∷ rest = first_and_rest xs some ∙ ap (λ x. x ∷ rest) (sym (front ∙ c.first-front.ensures (pos 0))) in
    let one : length xs ≡ length rest + 1 = let e = ap length parts in omega (arith, e) in
    let left : c.in_ok-items.items ≡ rest = c.in_ok-items.ensures in
    let weighs : c.weight_without-weight.result ≡ power (length rest) = c.weight_without-weight.ensures (length rest) (c.self.invariant.weighs ∙ ap power one) in
    record {
      sums = c.sum_without_front.ensures rest (c.self.invariant.sums ∙ ap rolled parts) weighs ∙ ap rolled (sym left);
      weighs = weighs ∙ ap (λ l. power (length l)) (sym left);
    }

pub returns : goal.returns
returns c = c.in_ok-items.ensures ∙ ap (drop 1) c.self.view_is
