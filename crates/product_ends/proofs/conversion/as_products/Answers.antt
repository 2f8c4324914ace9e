use Rattle.std.proofs.Common.{◌≡◌, ◌<◌, ◌∙◌, length, ap, subst, arith}
use Rattle.moves.specs.Tables.{rows_of}
use Rattle.products.specs.Products.{Family}
use Rattle.products.proofs.Leaving.{AreSoFar, so_far_none}
use Rattle.product_ends.proofs.Converting.{StandsAt, all_rows, first_is, row_more, same_parts}
use Rattle.product_ends.proofs.conversion.as_products.Goals as goal

pub loop-at-init : goal.loop-at-init
loop-at-init g c = record {
  places = ap (λ (family : Family). family.0) c.new-products.ensures;
  rows = so_far_none c.new-products.result.1 (StandsAt (rows_of c.args.table.now)) (ap (λ (family : Family). family.1) c.new-products.ensures);
}

pub loop-at-preserved : goal.loop-at-preserved
loop-at-preserved g c =
    let row = c.read.new.row.items in
    let some : 0 < length row = grind (arith, c.is_empty.ensures, c.if-is_empty.false, c.if-is_empty.ensures) in
    record {
      places = c.in_ok-put.ensures.places ∙ c.loop-at.invariant.places;
      rows = row_more (rows_of c.args.table.now) c.loop-at.at row c.loop-at.products.1 c.put.new.self.1 (c.index.result.now, c.deref-in-loop-at.result.now) c.in_ok-read.ensures
          (same_parts row c.deref.result.now c.set_alone.new.sets.items c.deref-in-loop-at.result.now c.index.result.now c.deref.ensures.value c.deref-in-loop-at.ensures.value (first_is row c.index.result.now some c.index.ensures)
          c.in_ok-set_alone.ensures.alone)
          c.in_ok-put.ensures.puts c.loop-at.invariant.rows;
    }

pub returns : goal.returns
returns g c =
    let t = c.args.table.now in
    let all : c.loop-at.at ≡ length (rows_of t) = omega arith in
    all_rows t c.loop-at.products.1 c.rows-rows.ensures.apart (subst (AreSoFar c.loop-at.products.1 (StandsAt (rows_of t))) all c.loop-at.invariant.rows)
