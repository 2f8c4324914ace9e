use Rattle.std.proofs.Common.{◌≡◌, ◌+◌, ◌∷◌, ◌++◌, [], Some, slice_get, get_or, length, refl, ap, ◌∙◌, subst, arith, length-append}
use Rattle.std.proofs.lemmas.List.{get_or_append_left}
use Rattle.std.proofs.lemmas.Option.{slice_get_read, slice_get_within}
use Rattle.moves.specs.KeptEnds.{end_kept}
use Rattle.interner.specs.Numbers.{IsSlot}
use Rattle.moves.proofs.Rows.{slots_more}
use Rattle.moves.proofs.Showing.{widens_founds, widens_itself, widens_states}
use Rattle.moves.proofs.table.row_of.Goals as goal

pub returns-in_err-slot_of-clause-rows : goal.returns-in_err-slot_of-clause-rows
returns-in_err-slot_of-clause-rows g c = record { widens = widens_founds c.args.table.now c.loop-call.table c.slot_of.new.founds c.loop-call.invariant.rows.widens c.in_err-slot_of.ensures.front c.in_err-slot_of.ensures.once; rows = c.loop-call.invariant.rows.rows }

pub returns-in_err-push-2-clause-rows : goal.returns-in_err-push-2-clause-rows
returns-in_err-push-2-clause-rows g c = record { widens = widens_founds c.args.table.now c.loop-call.table c.slot_of.new.founds c.loop-call.invariant.rows.widens c.in_ok-slot_of.ensures.front c.in_ok-slot_of.ensures.once; rows = c.loop-call.invariant.rows.rows }

pub loop-call-preserved : goal.loop-call-preserved
loop-call-preserved g c =
    let i = c.loop-call.call-index in
    let row = c.loop-call.row.items in
    let long = c.loop-call.invariant.long in
    let longer = c.in_ok-push-2.ensures.items in
    let here : slice_get c.args.calls.now i ≡ Some c.call-item.result = slice_get_read c.args.calls.now (length c.args.calls.now) i c.call-item.result refl (omega arith) c.call-item.is in
    record {
      long = ap length longer ∙ length-append row (c.in_ok-slot_of.field-0 ∷ []) ∙ ap (λ n. n + 1) long;
      state = ap (slice_get c.loop-call.table.states) (ap (λ l. get_or l 0 0) longer ∙ get_or_append_left row (c.in_ok-slot_of.field-0 ∷ []) 0 0 (omega (arith, long))) ∙ c.loop-call.invariant.state;
      slots = slots_more c.loop-call.table.founds c.slot_of.new.founds c.args.calls.now (end_kept c.args.kept.now) row _ i c.in_ok-slot_of.field-0 c.call-item.result c.in_ok-slot_of.ensures.front long longer here
          (subst (IsSlot c.slot_of.new.founds c.in_ok-slot_of.field-0) c.in_ok-found.ensures c.in_ok-slot_of.ensures.slot) c.loop-call.invariant.slots;
      rows = record { widens = widens_founds c.args.table.now c.loop-call.table c.slot_of.new.founds c.loop-call.invariant.rows.widens c.in_ok-slot_of.ensures.front c.in_ok-slot_of.ensures.once; rows = c.loop-call.invariant.rows.rows };
    }

pub returns-clause-shows : goal.returns-clause-shows
returns-clause-shows g c included =
    record {
      long = (let long = c.loop-call.invariant.long in omega (arith, long));
      state = c.loop-call.invariant.state;
      slots = λ i d h. c.loop-call.invariant.slots i d (let lt = slice_get_within c.args.calls.now i d h in omega (arith, lt)) h;
      included = included;
    }

pub returns-in_err-number_of-clause-rows : goal.returns-in_err-number_of-clause-rows
returns-in_err-number_of-clause-rows g c = record { widens = widens_states c.args.table.now c.args.table.now c.number_of.new.states (widens_itself c.args.table.now) c.in_err-number_of.ensures.front (λ _. c.in_err-number_of.ensures.once); rows = refl }

pub loop-call-init : goal.loop-call-init
loop-call-init g c =
    let row = c.in_ok-push.ensures.items ∙ ap (λ l. l ++ c.in_ok-number_of.field-0 ∷ []) c.in_ok-row.ensures.items in
    record {
      long = ap length row;
      state = ap (slice_get c.number_of.new.states) (ap (λ l. get_or l 0 0) row) ∙ c.in_ok-number_of.ensures.there ∙ ap Some c.in_ok-state.ensures;
      slots = λ i d lt h. absurd (omega (arith, lt));
      rows = record { widens = widens_states c.args.table.now c.args.table.now c.number_of.new.states (widens_itself c.args.table.now) c.in_ok-number_of.ensures.front (λ _. c.in_ok-number_of.ensures.once); rows = refl };
    }
