use Rattle.std.proofs.Common.{◌≡◌, length, get_or, set, sym, ap, ◌∙◌, arith}
use Rattle.std.proofs.lemmas.Grind.{common_steps}
use Rattle.std.proofs.lemmas.List.{length-set}
use Rattle.products.specs.Products.{numbers_of}
use Rattle.product_ends.proofs.Counting.{no_row, some_row}
use Rattle.product_ends.proofs.target.has_row.Goals as goal

pub returns-then-size-eq0-clause-none : goal.returns-then-size-eq0-clause-none
returns-then-size-eq0-clause-none c is row =
    let base = set c.args.sets.now c.args.place c.args.set in
    let long = length-set c.args.sets.now c.args.place c.args.set in
    let own : c.if-at-place.own ≡ get_or base c.loop-at.at 0 = grind (arith, common_steps) in
    no_row base c.loop-at.at (omega arith) (ap (λ n. length (numbers_of n)) (sym own) ∙ sym c.size.ensures ∙ c.if-size-eq0.true) row

pub returns-clause-some : goal.returns-clause-some
returns-clause-some c is =
    let base = set c.args.sets.now c.args.place c.args.set in
    let long = length-set c.args.sets.now c.args.place c.args.set in
    some_row base (λ k lt. c.loop-at.invariant k (omega arith))
