use Rattle.std.proofs.Common.{◌≡◌, ◌∙◌, ◌+◌, ◌-◌, ◌<◌, ◌≤◌, ℕ, true, false, [], get_or, length, sym, subst, arith}
use Rattle.std.specs.List.{remove}
use Rattle.std.proofs.lemmas.Bool.{true≢false}
use Rattle.products.specs.Products.{Has, HasWith, IsIn}
use Rattle.products.proofs.Leaving.{AreSoFar, IsLeftAt, all_left, left_there, none_left, product_here, product_there, puts_with, so_far_more, so_far_skip}
use Rattle.products.proofs.taking.put_marked.Goals as goal
use Rattle.products.proofs.taking.put_marked.Goals.{then-has_marked+in_ok-rewrite_without+in_ok-put, else-has_marked}

pub loop-at-preserved : goal.loop-at-preserved
loop-at-preserved c =
    let others = c.args.other.now.1 in
    let at = c.loop-at.at in
    let sets = c.sets-sets.result.now in
    let long = c.sets-sets.ensures.long in
    let within : c.args.place ≤ length sets = omega (arith, long) in
    let lt : at < length others = omega arith in
    let P = λ (n : ℕ). get_or c.args.marks.now n false ≡ true in
    let Q = IsLeftAt P others c.args.place in
    let so = c.loop-at.invariant in
    elim c.if-has_marked.branch [
      | then-has_marked+in_ok-rewrite_without+in_ok-put w ↦
          let first = w.first.result in
          let here = product_there others at first sets lt w.first.ensures c.sets-sets.ensures.sets in
          let one = c.has_marked.ensures.0 w.if-has_marked.true in
          let with_it =
          subst (λ left. HasWith (IsIn (first, left)) c.loop-at.products.1 w.put.new.self.1) (w.deref.ensures.value ∙ w.in_ok-rewrite_without.ensures)
          (puts_with (first, w.deref.result.now) c.loop-at.products.1 w.put.new.self.1 w.in_ok-put.ensures.puts) in
          record {
            places = subst (λ p. p.0 ≡ c.args.other.now.0 - 1) (sym w.products-is) (w.in_ok-put.ensures.places ∙ so.places);
            rows = subst (λ p. AreSoFar p.1 Q (at + 1)) (sym w.products-is)
                (so_far_more Q at c.loop-at.products.1 w.put.new.self.1 (IsIn (first, remove sets (c.args.place - 1))) so.rows with_it
                (left_there others at first sets here P c.args.place c.requires.after within one.0 one.1 one.2));
          }
      | else-has_marked w ↦
          let none = λ (one : (number : ℕ) × Has (get_or sets (c.args.place - 1) 0) number × P number). true≢false (sym (c.has_marked.ensures.1 one) ∙ w.if-has_marked.false) in
          record {
            places = subst (λ p. p.0 ≡ c.args.other.now.0 - 1) (sym w.products-is) so.places;
            rows = subst (λ p. AreSoFar p.1 Q (at + 1)) (sym w.products-is)
                (so_far_skip Q at c.loop-at.products.1 so.rows
                (none_left others at (get_or others at (0, [])).0 sets (product_here others at sets lt c.sets-sets.ensures.sets) P c.args.place c.requires.after within none));
          }
    ]

pub returns-clause-left : goal.returns-clause-left
returns-clause-left c =
    let all : c.loop-at.at ≡ length c.args.other.now.1 = omega arith in
    all_left c.args.other.now.1 c.loop-at.products.1 c.args.place c.args.marks.now
    (subst (AreSoFar c.loop-at.products.1 (IsLeftAt (λ n. get_or c.args.marks.now n false ≡ true) c.args.other.now.1 c.args.place)) all c.loop-at.invariant.rows)
