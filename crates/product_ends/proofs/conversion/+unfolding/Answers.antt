use Rattle.std.proofs.Common.{◌+◌, ◌-◌, ◌^◌, ◌≤◌, ℕ, List, ⊎_elim, get_or, ap, sym, ◌∙◌, subst, arith}
use Rattle.std.specs.Prelude.{Vec}
use Rattle.std.specs.Global.{Global}
use Rattle.std.proofs.lemmas.Bool.{true≢false}
use Rattle.std.proofs.lemmas.Result.{on_ok_weaker}
use Rattle.words.specs.Puts.{IsPut}
use Rattle.interner.specs.Numbers.{IsOnceIn}
use Rattle.interner.proofs.Lists.{once_push}
use Rattle.product_ends.specs.Conversion.{GoesOn, HasMore}
use Rattle.product_ends.proofs.Unfolding.{GoesBelow, GoesBy, alone_high, below_all, below_more, below_skip, few_bits, goes_alone, goes_nowhere, more_same, put_more}
use Rattle.product_ends.proofs.conversion.+unfolding.Goals as goal
use Rattle.product_ends.proofs.conversion.+unfolding.Goals.{put_rows-then-has+in_ok-put_rows_with, put_rows-else-has}

pub put_rows-returns-then-place-sets-clause-rows : goal.put_rows-returns-then-place-sets-clause-rows
put_rows-returns-then-place-sets-clause-rows t c =
    let sets = c.args.sets.now in
    let row = c.args.row.now.items in
    on_ok_weaker c.put.result
    (λ put.
    put_more row c.args.rows.now c.put.new.self (subst (λ r. IsPut r c.args.rows.now c.put.new.self) c.deref.ensures.value put) (GoesOn sets c.args.place row)
    (goes_nowhere sets c.args.place row c.if-place-sets.true))
    c.put.ensures.put

-- the row that is put is there once, if the others are
put_once : (row : List ℕ) (old new : List (List ℕ)) → IsPut row old new → IsOnceIn old → IsOnceIn new
put_once row old new put once =
    ⊎_elim (λ h. subst IsOnceIn (sym h.1) once) (λ h. subst IsOnceIn (sym h.1) (once_push old row h.0 once)) put

pub put_rows-returns-then-place-sets-clause-once : goal.put_rows-returns-then-place-sets-clause-once
put_rows-returns-then-place-sets-clause-once t c =
    on_ok_weaker c.put.result (λ put. put_once c.deref.result.now c.args.rows.now c.put.new.self put) c.put.ensures.put

pub put_rows-returns-then-set-ge-HIGH-clause-once : goal.put_rows-returns-then-set-ge-HIGH-clause-once
put_rows-returns-then-set-ge-HIGH-clause-once t c = c.put_rows_with.ensures.once

pub put_rows-returns-clause-once : goal.put_rows-returns-clause-once
put_rows-returns-clause-once t c = c.loop-number.invariant.once

pub put_rows_with-returns-clause-once : goal.put_rows_with-returns-clause-once
put_rows_with-returns-clause-once t c = c.in_ok-put_rows.ensures.once

pub put_rows-returns-then-set-ge-HIGH-clause-rows : goal.put_rows-returns-then-set-ge-HIGH-clause-rows
put_rows-returns-then-set-ge-HIGH-clause-rows t c =
    let sets = c.args.sets.now in
    let place = c.args.place in
    let row = c.args.row.now.items in
    let number = get_or sets place 0 - 2 ^ 63 in
    on_ok_weaker c.put_rows_with.result
    (more_same (GoesBy sets place row number) (GoesOn sets place row) c.args.rows.now c.put_rows_with.new.rows
    (goes_alone sets place row number c.if-place-sets.false (alone_high (get_or sets place 0) c.if-set-ge-HIGH.true)))
    c.put_rows_with.ensures.rows

pub put_rows-loop-number-preserved : goal.put_rows-loop-number-preserved
put_rows-loop-number-preserved t c =
    let sets = c.args.sets.now in
    let place = c.args.place in
    let row = c.args.row.now.items in
    let n = c.loop-number.number in
    elim c.if-has.branch [
      | put_rows-then-has+in_ok-put_rows_with w ↦
          record {
            rows = subst (HasMore (GoesBelow sets place row (n + 1)) c.args.rows.now) (sym w.rows-is)
                (below_more sets place row n c.args.rows.now c.loop-number.rows c.loop-number.invariant.rows w.put_rows_with-then-has.new.rows (c.has.ensures.0 w.if-has.true)
                (subst (λ r. HasMore (GoesBy sets place r n) c.loop-number.rows w.put_rows_with-then-has.new.rows) c.loop-number.invariant.row w.in_ok-put_rows_with.ensures.rows));
            once = λ once. subst IsOnceIn (sym w.rows-is) (w.in_ok-put_rows_with.ensures.once (c.loop-number.invariant.once once));
            row = ap (λ (v : Vec ℕ Global). v.items) w.row-is ∙ w.in_ok-put_rows_with.ensures.row ∙ c.loop-number.invariant.row;
          }
      | put_rows-else-has w ↦
          record {
            rows = subst (HasMore (GoesBelow sets place row (n + 1)) c.args.rows.now) (sym w.rows-is)
                (below_skip sets place row n c.args.rows.now c.loop-number.rows c.loop-number.invariant.rows (λ h. true≢false (sym (c.has.ensures.1 h) ∙ w.if-has.false)));
            once = λ once. subst IsOnceIn (sym w.rows-is) (c.loop-number.invariant.once once);
            row = ap (λ (v : Vec ℕ Global). v.items) w.row-is ∙ c.loop-number.invariant.row;
          }
    ]

pub put_rows-returns-clause-rows : goal.put_rows-returns-clause-rows
put_rows-returns-clause-rows t c =
    let sets = c.args.sets.now in
    let place = c.args.place in
    let row = c.args.row.now.items in
    let n = c.loop-number.number in
    let all : 63 ≤ n = omega arith in
    more_same (GoesBelow sets place row n) (GoesOn sets place row) c.args.rows.now c.loop-number.rows
    (below_all sets place row n c.if-place-sets.false (λ k has. let few = few_bits (get_or sets place 0) k c.if-set-ge-HIGH.false has in omega (arith, few, all)))
    c.loop-number.invariant.rows

pub put_rows_with-returns-clause-rows : goal.put_rows_with-returns-clause-rows
put_rows_with-returns-clause-rows t c =
    subst (λ r. HasMore (GoesOn c.args.sets.now (c.args.place + 1) r) c.args.rows.now c.put_rows.new.rows) c.in_ok-push.ensures.items c.in_ok-put_rows.ensures.rows
