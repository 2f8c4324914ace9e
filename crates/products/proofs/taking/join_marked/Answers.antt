use Rattle.std.proofs.Common.{◌≡◌, ◌∙◌, ◌+◌, ◌-◌, ◌<◌, ◌≤◌, ℕ, [], get_or, length, refl, sym, subst, arith}
use Rattle.std.specs.List.{remove}
use Rattle.std.proofs.lemmas.Bool.{true≢false}
use Rattle.products.specs.Products.{Has, HasWith, IsIn}
use Rattle.products.proofs.Leaving.{AreSoFar, IsLeftAt, all_left_of, left_apart, left_there, none_left, product_here, product_there, so_far_more, so_far_skip}
use Rattle.products.proofs.taking.join_marked.Goals as goal
use Rattle.products.proofs.taking.join_marked.Goals.{then-has+in_ok-rewrite_without+in_ok-join, else-has}

pub join-requires-clause-apart : goal.join-requires-clause-apart
join-requires-clause-apart c =
    let others = c.args.other.now.1 in
    let at = c.loop-at.at in
    let sets = c.sets-sets.result.now in
    let long = c.sets-sets.ensures.long in
    let within : c.args.place ≤ length sets = omega (arith, long) in
    let here = product_there others at c.first.result sets (omega arith) c.first.ensures c.sets-sets.ensures.sets in
    let left = left_there others at c.first.result sets here (λ n. n ≡ c.args.number) c.args.place c.requires.after within c.args.number (c.has.ensures.0 c.if-has.true) refl in
    λ row is.
    left_apart others c.rows-rows.ensures.apart c.loop-at.products.1 at c.args.place c.args.number c.loop-at.invariant.rows row
    ((left row).0 (subst (λ l. IsIn (c.first.result, l) row) (c.deref.ensures.value ∙ c.in_ok-rewrite_without.ensures) is))

pub loop-at-preserved : goal.loop-at-preserved
loop-at-preserved c =
    let others = c.args.other.now.1 in
    let at = c.loop-at.at in
    let sets = c.sets-sets.result.now in
    let long = c.sets-sets.ensures.long in
    let within : c.args.place ≤ length sets = omega (arith, long) in
    let lt : at < length others = omega arith in
    let Q = IsLeftAt (λ n. n ≡ c.args.number) others c.args.place in
    let so = c.loop-at.invariant in
    elim c.if-has.branch [
      | then-has+in_ok-rewrite_without+in_ok-join w ↦
          let first = w.first.result in
          let here = product_there others at first sets lt w.first.ensures c.sets-sets.ensures.sets in
          let with_it =
          subst (λ left. HasWith (IsIn (first, left)) c.loop-at.products.1 w.join.new.self.1) (w.deref.ensures.value ∙ w.in_ok-rewrite_without.ensures) w.in_ok-join.ensures.joins in
          record {
            places = subst (λ p. p.0 ≡ c.args.other.now.0 - 1) (sym w.products-is) (w.in_ok-join.ensures.places ∙ so.places);
            rows = subst (λ p. AreSoFar p.1 Q (at + 1)) (sym w.products-is)
                (so_far_more Q at c.loop-at.products.1 w.join.new.self.1 (IsIn (first, remove sets (c.args.place - 1))) so.rows with_it
                (left_there others at first sets here (λ n. n ≡ c.args.number) c.args.place c.requires.after within c.args.number (c.has.ensures.0 w.if-has.true) refl));
          }
      | else-has w ↦
          let none = λ (one : (number : ℕ) × Has (get_or sets (c.args.place - 1) 0) number × (number ≡ c.args.number)).
          true≢false (sym (c.has.ensures.1 (subst (Has (get_or sets (c.args.place - 1) 0)) one.2 one.1)) ∙ w.if-has.false) in
          record {
            places = subst (λ p. p.0 ≡ c.args.other.now.0 - 1) (sym w.products-is) so.places;
            rows = subst (λ p. AreSoFar p.1 Q (at + 1)) (sym w.products-is)
                (so_far_skip Q at c.loop-at.products.1 so.rows
                (none_left others at (get_or others at (0, [])).0 sets (product_here others at sets lt c.sets-sets.ensures.sets) (λ n. n ≡ c.args.number) c.args.place c.requires.after within none));
          }
    ]

pub returns-clause-left : goal.returns-clause-left
returns-clause-left c =
    let all : c.loop-at.at ≡ length c.args.other.now.1 = omega arith in
    all_left_of c.args.other.now.1 c.loop-at.products.1 c.args.place c.args.number
    (subst (AreSoFar c.loop-at.products.1 (IsLeftAt (λ n. n ≡ c.args.number) c.args.other.now.1 c.args.place)) all c.loop-at.invariant.rows)
