use Rattle.std.proofs.Common.{rules, FitsSigned, ◌≡◌, ◌+◌, ◌<◌, ◌-◌, ◌++◌, ◌<ℤ◌, ◌≤ℤ◌, ℕ, get_or, length, sym, ap, subst, ◌∙◌, to_z, of_z, w64, arith, length-append}
use Rattle.std.proofs.lemmas.Int.{to_z-of_z}
use Rattle.persistent.specs.declared.tree.Pair.{Pair}
use Rattle.persistent.specs.Trees.{values_of, IsWhole}
use Rattle.persistent.proofs.Rows.{before_right, there_left, there_right}
use Rattle.persistent.proofs.tree.Tree.+place_of.Goals as goal

pub returns-then-place-value-clause-before : goal.returns-then-place-value-clause-before
returns-then-place-value-clause-before g t c k d is =
    let p = c.in-Fork.pair.value in
    let v = c.args.value in
    let place = g.T.Placed.place in
    let now : c.args.self.now ≡ p.left ++ p.right = sym c.self.view_is ∙ ap values_of c.in-Fork.is in
    let whole = subst IsWhole c.in-Fork.is c.self.invariant in
    let passed : to_z w64 (of_z w64 v) ≡ v = to_z-of_z w64 v c.ranges.value in
    let right : c.deref-then-place-value-2.result.now.right ≡ p.right = ap (λ (q : Pair g.row.T.Denot). q.right) c.deref-then-place-value-2.ensures in
    let first : c.place.result ≡ place (get_or p.right 0 d) =
    c.place.ensures ∙ ap place (c.first.ensures d ∙ ap (λ (q : Pair g.row.T.Denot). get_or q.right 0 d) c.deref-in-Fork.ensures) in
    let fits : FitsSigned w64 c.place.result = search rules in
    let less : to_z w64 (of_z w64 c.place.result) <ℤ to_z w64 (of_z w64 v) = search rules in
    let low : place (get_or p.right 0 d) <ℤ v = subst (λ z. z <ℤ v) (to_z-of_z w64 c.place.result fits ∙ first)
    (subst (λ z. to_z w64 (of_z w64 c.place.result) <ℤ z) passed less) in
    let before : (j : ℕ) → c.place_of.result ≡ j + 1 → place (get_or p.right j d) <ℤ v = (λ j e.
    subst (λ r. place (get_or r j d) <ℤ v) right (subst (λ z. place (get_or c.deref-then-place-value-2.result.now.right j d) <ℤ z) passed (c.place_of.ensures.before j d e))) in
    let there : c.place_of.result < length p.right → v ≤ℤ place (get_or p.right c.place_of.result d) = (λ h.
    subst (λ r. v ≤ℤ place (get_or r c.place_of.result d)) right
    (subst (λ z. z ≤ℤ place (get_or c.deref-then-place-value-2.result.now.right c.place_of.result d)) passed
    (c.place_of.ensures.there d (subst (λ r. c.place_of.result < length r) (sym right) h)))) in
    let within = c.place_of.ensures.within in
    let long = ap length right in
    let many : c.len.result ≡ length p.right = c.len.ensures ∙ ap (λ (q : Pair g.row.T.Denot). length q.right) c.deref-then-place-value.ensures in
    let total : c.len-then-place-value.result ≡ length p.left + length p.right = c.len-then-place-value.ensures ∙ ap length now ∙ length-append p.left p.right in
    subst (λ l. place (get_or l k d) <ℤ v) (sym now)
    (before_right place p.left p.right v c.place_of.result d low whole.1 before there k (omega (arith, is, within, long, many, total)))

pub returns-then-place-value-clause-there : goal.returns-then-place-value-clause-there
returns-then-place-value-clause-there g t c d h =
    let p = c.in-Fork.pair.value in
    let v = c.args.value in
    let place = g.T.Placed.place in
    let now : c.args.self.now ≡ p.left ++ p.right = sym c.self.view_is ∙ ap values_of c.in-Fork.is in
    let passed : to_z w64 (of_z w64 v) ≡ v = to_z-of_z w64 v c.ranges.value in
    let right : c.deref-then-place-value-2.result.now.right ≡ p.right = ap (λ (q : Pair g.row.T.Denot). q.right) c.deref-then-place-value-2.ensures in
    let there : c.place_of.result < length p.right → v ≤ℤ place (get_or p.right c.place_of.result d) = (λ h.
    subst (λ r. v ≤ℤ place (get_or r c.place_of.result d)) right
    (subst (λ z. z ≤ℤ place (get_or c.deref-then-place-value-2.result.now.right c.place_of.result d)) passed
    (c.place_of.ensures.there d (subst (λ r. c.place_of.result < length r) (sym right) h)))) in
    let within = c.place_of.ensures.within in
    let long = ap length right in
    let many : c.len.result ≡ length p.right = c.len.ensures ∙ ap (λ (q : Pair g.row.T.Denot). length q.right) c.deref-then-place-value.ensures in
    let total : c.len-then-place-value.result ≡ length p.left + length p.right = c.len-then-place-value.ensures ∙ ap length now ∙ length-append p.left p.right in
    let at : c.len-then-place-value.result - (c.len.result - c.place_of.result) ≡ length p.left + c.place_of.result = omega (arith, within, long, many, total) in
    let inside : length p.left + c.place_of.result < length (p.left ++ p.right) = subst (λ n. n < length (p.left ++ p.right)) at
    (subst (λ l. c.len-then-place-value.result - (c.len.result - c.place_of.result) < length l) now h) in
    subst (λ n. v ≤ℤ place (get_or c.args.self.now n d)) (sym at)
    (subst (λ l. v ≤ℤ place (get_or l (length p.left + c.place_of.result) d)) (sym now) (there_right place p.left p.right v c.place_of.result d there inside))

pub returns-else-place-value-clause-there : goal.returns-else-place-value-clause-there
returns-else-place-value-clause-there g t c d h =
    let p = c.in-Fork.pair.value in
    let v = c.args.value in
    let place = g.T.Placed.place in
    let now : c.args.self.now ≡ p.left ++ p.right = sym c.self.view_is ∙ ap values_of c.in-Fork.is in
    let passed : to_z w64 (of_z w64 v) ≡ v = to_z-of_z w64 v c.ranges.value in
    let left : c.deref-in-Fork-2.result.now.left ≡ p.left = ap (λ (q : Pair g.row.T.Denot). q.left) c.deref-in-Fork-2.ensures in
    let first : c.place.result ≡ place (get_or p.right 0 d) =
    c.place.ensures ∙ ap place (c.first.ensures d ∙ ap (λ (q : Pair g.row.T.Denot). get_or q.right 0 d) c.deref-in-Fork.ensures) in
    let fits : FitsSigned w64 c.place.result = search rules in
    let more : to_z w64 (of_z w64 v) ≤ℤ to_z w64 (of_z w64 c.place.result) = search rules in
    let high : v ≤ℤ place (get_or p.right 0 d) = subst (λ z. v ≤ℤ z) (to_z-of_z w64 c.place.result fits ∙ first)
    (subst (λ z. z ≤ℤ to_z w64 (of_z w64 c.place.result)) passed more) in
    let there : c.place_of-in-Fork.result < length p.left → v ≤ℤ place (get_or p.left c.place_of-in-Fork.result d) = (λ h.
    subst (λ r. v ≤ℤ place (get_or r c.place_of-in-Fork.result d)) left
    (subst (λ z. z ≤ℤ place (get_or c.deref-in-Fork-2.result.now.left c.place_of-in-Fork.result d)) passed
    (c.place_of-in-Fork.ensures.there d (subst (λ r. c.place_of-in-Fork.result < length r) (sym left) h)))) in
    let within = c.place_of-in-Fork.ensures.within in
    let long = ap length left in
    subst (λ l. v ≤ℤ place (get_or l c.place_of-in-Fork.result d)) (sym now)
    (there_left place p.left p.right v c.place_of-in-Fork.result d (omega (arith, within, long)) there high)
