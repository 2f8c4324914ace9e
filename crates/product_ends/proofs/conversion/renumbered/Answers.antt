use Rattle.std.proofs.Common.{◌≡◌, Some, option_copied, length, slice_get, ap, sym, ◌∙◌, subst, arith}
use Rattle.products.specs.Products.{Family, Puts}
use Rattle.products.proofs.Leaving.{product_there}
use Rattle.product_ends.proofs.Renumbering.{AreSaidAgain, said_all, said_more, said_none}
use Rattle.product_ends.proofs.conversion.renumbered.Goals as goal

pub loop-at-init : goal.loop-at-init
loop-at-init g c = record {
  places = ap (λ (family : Family). family.0) c.new-products.ensures ∙ c.places.ensures;
  said = said_none c.args.table.now _ c.args.kept.now.1 c.new-products.result.1 c.new.ensures c.new-2.ensures (ap (λ (family : Family). family.1) c.new-products.ensures);
}

pub loop-at-preserved : goal.loop-at-preserved
loop-at-preserved g c =
    let t = c.args.table.now in
    let kept = c.args.kept.now.1 in
    let at = c.loop-at.at in
    let first = c.first.result in
    let sets = c.sets.result.now in
    let here = product_there kept at first sets (omega arith) c.first.ensures c.sets.ensures.sets in
    let state : slice_get t.states first ≡ Some c.in-Some.state.now = sym c.get.ensures ∙ ap option_copied c.in-Some.is in
    let known : slice_get c.number_of.new.states c.in_ok-number.number ≡ Some c.in-Some.state.now = c.in_ok-number.ensures.there ∙ ap Some c.in_ok-copy.ensures in
    record {
      places = c.in_ok-put.ensures.places ∙ c.loop-at.invariant.places;
      said = said_more t c.loop-at.other _ kept c.loop-at.products.1 c.put.new.self.1 at first c.in_ok-number.number c.in-Some.state.now sets c.renumber_sets.new.other.items c.number_of.ensures.front c.renumber_sets.ensures.front
          c.in_ok-number.ensures.once c.renumber_sets.ensures.once here state known (c.in_ok-renumber_sets.ensures.sets c.if-not-branch.false)
          (subst (λ l. Puts (c.in_ok-number.number, l) 0 c.loop-at.products.1 c.put.new.self.1) c.deref.ensures.value c.in_ok-put.ensures.puts) c.loop-at.invariant.said;
    }

pub returns : goal.returns
returns g c =
    let t = c.args.table.now in
    let kept = c.args.kept.now.1 in
    let all : c.loop-at.at ≡ length kept = omega arith in
    said_all t c.loop-at.other kept c.loop-at.products.1 c.rows-rows.ensures.apart (subst (AreSaidAgain t c.loop-at.other kept c.loop-at.products.1) all c.loop-at.invariant.said)
