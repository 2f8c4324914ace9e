use Rattle.std.proofs.Common.{refl, length, ap, sym, ◌∙◌, arith}
use Rattle.std.proofs.lemmas.List.{get_or_read_under}
use Rattle.products.specs.Products.{Product}
use Rattle.products.proofs.Families.{view_long, view_product}
use Rattle.products.proofs.products.Products.first.Goals as goal

pub index-requires : goal.index-requires
index-requires c =
    let i = c.self.inside in
    let long = view_long i.places i.firsts.items i.words.items c.args.self.now c.self.view_is in
    let ok = i.firsts.ok in
    omega (arith, long, ok)

pub returns : goal.returns
returns c product there =
    let i = c.self.inside in
    let long = view_long i.places i.firsts.items i.words.items c.args.self.now c.self.view_is in
    get_or_read_under i.firsts.items c.args.at (length i.firsts.items) c.index.result.now 0 c.index.ensures (omega (arith, long)) refl
    ∙ sym (ap (λ (p : Product). p.0) (view_product i.places i.firsts.items i.words.items c.args.self.now c.self.view_is c.args.at (omega (arith, long)) product there))
