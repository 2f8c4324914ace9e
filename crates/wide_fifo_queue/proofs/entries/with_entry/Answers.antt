use Rattle.std.proofs.Common.{◌≡◌, ◌≢◌, ◌↔◌, ℤ, ◌⊎◌, ◌∷◌, ◌++◌, take, drop, sym, subst, rules, to_z, of_z, w64}
use Rattle.std.specs.List.{Contains}
use Rattle.wide_fifo_queue.specs.Facts.{IsByValue}
use Rattle.wide_fifo_queue.proofs.Places.{ordered_with, has_with}
use Rattle.wide_fifo_queue.proofs.entries.with_entry.Goals as goal

pub returns-clause-ordered : goal.returns-clause-ordered
returns-clause-ordered c by =
    let same : to_z w64 (of_z w64 c.args.entry.value) ≡ c.args.entry.value = search rules in
    subst IsByValue (sym c.in_ok-row.ensures)
    (ordered_with c.args.entered.now (to_z w64 (of_z w64 c.args.entry.value)) c.place_of-at.result c.place_of-at.ensures.within c.place_of-at.ensures.before c.place_of-at.ensures.there by
    c.end_of-to.result c.end_of-to.ensures c.args.entry (sym same))

pub returns-clause-with : goal.returns-clause-with
returns-clause-with c by e =
    let same : to_z w64 (of_z w64 c.args.entry.value) ≡ c.args.entry.value = search rules in
    subst (λ l. Contains l e ↔ ((e ≡ c.args.entry) ⊎ (Contains c.args.entered.now e × (e.value ≢ c.args.entry.value)))) (sym c.in_ok-row.ensures)
    (subst (λ (v : ℤ). Contains (take c.place_of-at.result c.args.entered.now ++ c.args.entry ∷ drop c.end_of-to.result c.args.entered.now) e ↔ ((e ≡ c.args.entry) ⊎ (Contains c.args.entered.now e × (e.value ≢ v)))) same
    (has_with c.args.entered.now (to_z w64 (of_z w64 c.args.entry.value)) c.place_of-at.result c.place_of-at.ensures.within c.place_of-at.ensures.before c.place_of-at.ensures.there by
    c.end_of-to.result c.end_of-to.ensures c.args.entry (sym same) e))
