use Rattle.std.proofs.Common.{◌≡◌, ◌≢◌, ◌↔◌, suc, ◌+◌, ℤ, ⊎_elim, ◌++◌, take, drop, sym, ap, ◌∙◌, subst, arith, rules, to_z, of_z, w64}
use Rattle.std.specs.List.{Contains}
use Rattle.std.proofs.lemmas.List.{take-append-drop}
use Rattle.wide_fifo_queue.specs.Facts.{IsByValue}
use Rattle.wide_fifo_queue.proofs.Places.{ordered_without, has_without}
use Rattle.wide_fifo_queue.proofs.entries.without_entry.Goals as goal

pub returns-then-end_of-at-clause-without : goal.returns-then-end_of-at-clause-without
returns-then-end_of-at-clause-without c by e =
    let xs = c.args.entered.now in
    let at = c.place_of-at.result in
    let to = c.end_of.result in
    let same : to_z w64 (of_z w64 c.args.value) ≡ c.args.value = search rules in
    let to_is : to ≡ at = c.if-end_of-at.true in
    let whole : c.in_ok-row.row ≡ take at xs ++ drop to xs = c.in_ok-row.ensures ∙ sym (ap (λ n. take at xs ++ drop n xs) to_is ∙ take-append-drop at xs) in
    subst (λ l. Contains l e ↔ (Contains xs e × (e.value ≢ c.args.value))) (sym whole)
    (subst (λ (v : ℤ). Contains (take at xs ++ drop to xs) e ↔ (Contains xs e × (e.value ≢ v))) same
    (has_without xs (to_z w64 (of_z w64 c.args.value)) at c.place_of-at.ensures.within c.place_of-at.ensures.before c.place_of-at.ensures.there by to c.end_of.ensures e))

pub returns-clause-ordered : goal.returns-clause-ordered
returns-clause-ordered c by =
    let xs = c.args.entered.now in
    let at = c.place_of-at.result in
    let to = c.end_of.result in
    let apart = c.if-end_of-at.false in
    let to_is : suc at ≡ to = ⊎_elim (λ s. (let q : to ≡ at + 1 = s.0 in let r : suc at ≡ to = omega arith in r)) (λ s. absurd (apart s.0)) c.end_of.ensures in
    let whole : c.in_ok-others.others ≡ take at xs ++ drop to xs = c.in_ok-others.ensures ∙ ap (λ n. take at xs ++ drop n xs) to_is in
    subst IsByValue (sym whole)
    (ordered_without xs (to_z w64 (of_z w64 c.args.value)) at c.place_of-at.ensures.within c.place_of-at.ensures.before c.place_of-at.ensures.there by to c.end_of.ensures)

pub returns-clause-without : goal.returns-clause-without
returns-clause-without c by e =
    let xs = c.args.entered.now in
    let at = c.place_of-at.result in
    let to = c.end_of.result in
    let same : to_z w64 (of_z w64 c.args.value) ≡ c.args.value = search rules in
    let apart = c.if-end_of-at.false in
    let to_is : suc at ≡ to = ⊎_elim (λ s. (let q : to ≡ at + 1 = s.0 in let r : suc at ≡ to = omega arith in r)) (λ s. absurd (apart s.0)) c.end_of.ensures in
    let whole : c.in_ok-others.others ≡ take at xs ++ drop to xs = c.in_ok-others.ensures ∙ ap (λ n. take at xs ++ drop n xs) to_is in
    subst (λ l. Contains l e ↔ (Contains xs e × (e.value ≢ c.args.value))) (sym whole)
    (subst (λ (v : ℤ). Contains (take at xs ++ drop to xs) e ↔ (Contains xs e × (e.value ≢ v))) same
    (has_without xs (to_z w64 (of_z w64 c.args.value)) at c.place_of-at.ensures.within c.place_of-at.ensures.before c.place_of-at.ensures.there by to c.end_of.ensures e))
