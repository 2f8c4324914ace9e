use Rattle.std.proofs.Common.{◌≡◌, ◌∷◌, ◌++◌, [], ℕ, List, length, refl, subst, sym, arith}
use Rattle.interner.specs.Numbers.{IsOnceIn}
use Rattle.moves.proofs.Showing.{no_get}
use Rattle.product_ends.proofs.Saying.{places_once}
use Rattle.products.proofs.Leaving.{product_there}
use Rattle.product_ends.specs.Conversion.{GoesOn, HasMore}
use Rattle.product_ends.proofs.Unfolding.{AreUnfolded, unfolded_all, unfolded_more, unfolded_none}
use Rattle.product_ends.proofs.conversion.as_rows.Goals as goal

once_none : IsOnceIn {X = List ℕ} []
once_none i j x a b = absurd (no_get [] i x refl a)

pub loop-at-init : goal.loop-at-init
loop-at-init c = (
  unfolded_none c.args.products.now.1 c.new-rows.result c.new-rows.ensures,
  subst IsOnceIn (sym c.new-rows.ensures) once_none,
)

pub loop-at-preserved : goal.loop-at-preserved
loop-at-preserved c =
    let products = c.args.products.now.1 in
    let first = c.first.result in
    let sets = c.sets.result.now in
    let here = product_there products c.loop-at.at first sets (omega arith) c.first.ensures c.sets.ensures.sets in
    let pushed : c.push.new.self.items ≡ c.clear.new.self.items ++ first ∷ [] = c.in_ok-push.ensures.items in
    let cleared : c.clear.new.self.items ≡ [] = c.clear.ensures.items in
    let row : c.push.new.self.items ≡ first ∷ [] = cc in (
      unfolded_more products c.loop-at.at first sets c.loop-at.rows c.put_rows.new.rows here
          (subst (λ row. HasMore (GoesOn sets 0 row) c.loop-at.rows c.put_rows.new.rows) {y = first ∷ []} row c.in_ok-put_rows.ensures.rows)
          c.loop-at.invariant.0,
      c.in_ok-put_rows.ensures.once c.loop-at.invariant.1,
    )

pub returns-clause-rows : goal.returns-clause-rows
returns-clause-rows c =
    let products = c.args.products.now.1 in
    let all : c.loop-at.at ≡ length products = omega arith in
    unfolded_all products c.loop-at.rows (subst (λ n. AreUnfolded products n c.loop-at.rows) all c.loop-at.invariant.0)

pub returns-clause-once : goal.returns-clause-once
returns-clause-once c = places_once c.loop-at.rows c.loop-at.invariant.1
