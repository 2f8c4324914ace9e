use Rattle.std.proofs.Common.{refl, ◌∙◌}
use Rattle.products.proofs.Families.{kept_same}
use Rattle.products.proofs.products.Products.copied.Goals as goal

pub invariant_of-result : goal.invariant_of-result
invariant_of-result c =
    let i = c.self.inside in
    kept_same i.places i.places i.rows i.rows i.firsts.items _ i.words.items _ refl refl
    (c.in_ok-from_slice.ensures.items ∙ c.deref.ensures.value) (c.in_ok-from_slice-2.ensures.items ∙ c.deref-2.ensures.value) c.self.invariant
