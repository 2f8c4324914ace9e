use Rattle.std.proofs.Common.{◌≡◌, ◌≤◌, ◌+◌, ◌-◌, ◌++◌, ◌∷◌, [], ℕ, List, length, set, refl, ap, sym, ◌∙◌, subst, arith}
use Rattle.std.specs.List.{slice_get}
use Rattle.std.proofs.lemmas.Result.{on_ok_weaker}
use Rattle.products.specs.Products.{Family, IsIn, IsInOne, Product, Puts, rows_of_sets}
use Rattle.products.proofs.Families.{at_place, found_at, view_long}
use Rattle.products.proofs.Putting.{puts_joined, puts_pushed}
use Rattle.products.proofs.products.Products.join_from.Goals as goal

pub loop-at-init : goal.loop-at-init
loop-at-init c =
    let i = c.self.inside in
    let was = view_long i.places i.firsts.items i.words.items c.args.self.now c.self.view_is in
    record { same = refl; within = (let ok = i.firsts.ok in let len = c.len-at.ensures in omega (arith, was, ok, len)) }

pub index-requires : goal.index-requires
index-requires c =
    let upto = c.loop-at.invariant.within in
    let above = c.loop-at-test.true in
    let j = c.self-in-loop-at.inside in
    let now = view_long j.places j.firsts.items j.words.items c.args.self.now (c.self-in-loop-at.view_is ∙ c.loop-at.invariant.same) in
    let after = j.firsts.ok in
    omega (arith, now, after, upto, above)

pub sets-requires : goal.sets-requires
sets-requires c =
    let upto = c.loop-at.invariant.within in
    let above = c.loop-at-test.true in
    let same = ap (λ (f : Family). length f.1) c.loop-at.invariant.same in
    omega (arith, same, upto, above)

pub replace-requires-clause-at : goal.replace-requires-clause-at
replace-requires-clause-at c =
    let upto = c.loop-at.invariant.within in
    let above = c.loop-at-test.true in
    let same = ap (λ (f : Family). length f.1) c.loop-at.invariant.same in
    omega (arith, same, upto, above)

pub replace-requires-clause-apart : goal.replace-requires-clause-apart
replace-requires-clause-apart c =
    let upto = c.loop-at.invariant.within in
    let above = c.loop-at-test.true in
    let j = c.self-in-loop-at.inside in
    let now = view_long j.places j.firsts.items j.words.items c.args.self.now (c.self-in-loop-at.view_is ∙ c.loop-at.invariant.same) in
    let there = found_at j.places j.firsts.items j.words.items c.loop-at.self c.self-in-loop-at.view_is (c.loop-at.at - 1) c.index.result.now c.args.first c.sets.result.now
    (omega (arith, now, upto, above)) c.index.ensures c.if-index-first.true c.sets.ensures.sets in
    at_place (λ product. (row : List ℕ) → IsIn (product.0, c.args.sets.now) row → IsInOne c.loop-at.self.1 row → ⊥) c.loop-at.self.1 (c.loop-at.at - 1) (c.args.first, c.sets.result.now) there
    (λ row h o. c.requires.apart row h (subst (λ (f : Family). IsInOne f.1 row) c.loop-at.invariant.same o))

pub replace-requires-clause-rows : goal.replace-requires-clause-rows
replace-requires-clause-rows c =
    let upto = c.loop-at.invariant.within in
    let above = c.loop-at-test.true in
    let j = c.self-in-loop-at.inside in
    let now = view_long j.places j.firsts.items j.words.items c.args.self.now (c.self-in-loop-at.view_is ∙ c.loop-at.invariant.same) in
    let there = found_at j.places j.firsts.items j.words.items c.loop-at.self c.self-in-loop-at.view_is (c.loop-at.at - 1) c.index.result.now c.args.first c.sets.result.now
    (omega (arith, now, upto, above)) c.index.ensures c.if-index-first.true c.sets.ensures.sets in
    at_place (λ product. length (rows_of_sets (set product.1 c.in-Some.place c.in-Some.set)) ≡ length (rows_of_sets product.1) + length (rows_of_sets c.args.sets.now))
    c.loop-at.self.1 (c.loop-at.at - 1) (c.args.first, c.sets.result.now) there
    (c.in-Some.ensures.rows (λ row a b. c.requires.apart (c.args.first ∷ row) (refl, a)
    ((c.loop-at.at - 1), ((c.args.first, c.sets.result.now), ap (λ (f : Family). slice_get f.1 (c.loop-at.at - 1)) (sym c.loop-at.invariant.same) ∙ there, (refl, b)))))

pub returns-in-Some-clause-puts : goal.returns-in-Some-clause-puts
returns-in-Some-clause-puts c =
    let upto = c.loop-at.invariant.within in
    let above = c.loop-at-test.true in
    let j = c.self-in-loop-at.inside in
    let now = view_long j.places j.firsts.items j.words.items c.args.self.now (c.self-in-loop-at.view_is ∙ c.loop-at.invariant.same) in
    let there = found_at j.places j.firsts.items j.words.items c.loop-at.self c.self-in-loop-at.view_is (c.loop-at.at - 1) c.index.result.now c.args.first c.sets.result.now
    (omega (arith, now, upto, above)) c.index.ensures c.if-index-first.true c.sets.ensures.sets in
    let beyond : c.args.growable_from ≤ c.loop-at.at - 1 = omega (arith, above) in
    subst (Puts (c.args.first, c.args.sets.now) c.args.growable_from c.args.self.now.1) (sym (c.replace.ensures.replaced (c.args.first, c.sets.result.now) there))
    (subst (λ (f : Family). Puts (c.args.first, c.args.sets.now) c.args.growable_from c.args.self.now.1 (set f.1 (c.loop-at.at - 1) (c.args.first, set c.sets.result.now c.in-Some.place c.in-Some.set))) (sym c.loop-at.invariant.same)
    (puts_joined c.args.first c.args.growable_from (c.loop-at.at - 1) c.in-Some.place c.in-Some.set c.args.sets.now c.sets.result.now c.args.self.now.1 beyond
    (ap (λ (f : Family). slice_get f.1 (c.loop-at.at - 1)) (sym c.loop-at.invariant.same) ∙ there) c.in-Some.ensures.within c.in-Some.ensures.joined c.in-Some.ensures.both))

pub returns-clause-puts : goal.returns-clause-puts
returns-clause-puts c =
    let added : Product = (c.args.first, c.args.sets.now) in
    on_ok_weaker c.push.result
    (λ (pushed : c.push.new.self.1 ≡ c.loop-at.self.1 ++ added ∷ []).
    subst (Puts added c.args.growable_from c.args.self.now.1) (sym pushed)
    (subst (λ (f : Family). Puts added c.args.growable_from c.args.self.now.1 (f.1 ++ added ∷ [])) (sym c.loop-at.invariant.same)
    (puts_pushed added c.args.growable_from c.args.self.now.1)))
    c.push.ensures.pushed
