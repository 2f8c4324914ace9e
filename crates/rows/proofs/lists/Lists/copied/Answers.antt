use Rattle.std.proofs.Common.{map, sym, ap, ◌∙◌}
use Rattle.rows.specs.Lists.{list_hash}
use Rattle.rows.proofs.Listing.{not_indexed}
use Rattle.rows.proofs.Packing.{copied_lists}
use Rattle.rows.proofs.lists.Lists.copied.Goals as goal

pub invariant_of-result : goal.invariant_of-result
invariant_of-result c =
    not_indexed _ _ _ _
    (c.in_ok-hashes.ensures.items ∙ c.deref.ensures.value ∙ c.self.invariant.hashed
    ∙ ap (map list_hash) (sym (copied_lists c.self.inside.items.items c.in_ok-items.items.items c.in_ok-items.ensures.cases.0)))
    c.new.ensures.last c.new.ensures.before

pub returns : goal.returns
returns c = copied_lists c.self.inside.items.items c.in_ok-items.items.items c.in_ok-items.ensures.cases.0 ∙ c.self.view_is
