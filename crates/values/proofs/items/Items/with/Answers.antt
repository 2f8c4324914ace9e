use Rattle.std.proofs.Common.{◌≡◌, ◌++◌, ◌∷◌, [], length, sym, ap, ◌∙◌, to_z, of_z, w64, length-append}
use Rattle.std.proofs.lemmas.Int.{to_z-of_z}
use Rattle.values.specs.Rolled.{power, rolled}
use Rattle.values.proofs.Rolling.{insert-end}
use Rattle.values.proofs.items.Items.with.Goals as goal

pub invariant_of-result : goal.invariant_of-result
invariant_of-result c =
    let xs = c.self.inside.items in
    let passed = to_z w64 (of_z w64 c.args.value) in
    let made : c.in_ok-items.items ≡ xs ++ passed ∷ [] = c.in_ok-items.ensures ∙ insert-end xs c.len.result passed c.len.ensures in
    record {
      sums = c.sum_with.ensures xs c.self.invariant.sums ∙ ap rolled (sym made);
      weighs = c.weight_with.ensures (length xs) c.self.invariant.weighs ∙ ap power (sym (ap length made ∙ length-append xs (passed ∷ [])));
    }

pub returns : goal.returns
returns c =
    let xs = c.self.inside.items in
    let passed = to_z w64 (of_z w64 c.args.value) in
    c.in_ok-items.ensures ∙ insert-end xs c.len.result passed c.len.ensures ∙ ap (λ l. l ++ passed ∷ []) c.self.view_is
    ∙ ap (λ v. c.args.self.now ++ v ∷ []) (to_z-of_z w64 c.args.value c.ranges.value)
