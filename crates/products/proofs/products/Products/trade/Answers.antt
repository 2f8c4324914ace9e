use Rattle.std.proofs.Common.{ap}
use Rattle.products.proofs.Families.{kept_same}
use Rattle.products.proofs.products.Products.trade.Goals as goal

pub invariant_of-self : goal.invariant_of-self
invariant_of-self c =
    let o = c.other.inside in
    kept_same o.places _ o.rows _ o.firsts.items _ o.words.items _ c.swap.ensures.x_after c.swap-2.ensures.x_after
    (ap (λ v. v.items) c.swap-3.ensures.x_after) (ap (λ v. v.items) c.swap-4.ensures.x_after) c.other.invariant

pub invariant_of-other : goal.invariant_of-other
invariant_of-other c =
    let i = c.self.inside in
    kept_same i.places _ i.rows _ i.firsts.items _ i.words.items _ c.swap.ensures.y_after c.swap-2.ensures.y_after
    (ap (λ v. v.items) c.swap-3.ensures.y_after) (ap (λ v. v.items) c.swap-4.ensures.y_after) c.self.invariant
