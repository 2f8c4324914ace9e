use Rattle.std.proofs.Common.{length, ap, sym, ◌∙◌}
use Rattle.products.specs.Products.{Family}
use Rattle.products.proofs.Families.{length-laid_out}
use Rattle.products.proofs.products.Products.len.Goals as goal

pub returns : goal.returns
returns c =
    let i = c.self.inside in
    c.len.ensures ∙ i.firsts.ok.0 ∙ sym (length-laid_out i.places i.firsts.items i.words.items) ∙ ap (λ (f : Family). length f.1) c.self.view_is
