use Rattle.std.proofs.Common.{◌+◌, ◌∷◌, ◌++◌, [], ◌/◌, ◌*◌, ◌<◌, ◌≡◌, ◌≤◌, length, sym, subst, arith, length-append}
use Rattle.checkpoints.specs.Saved.{AreSaved}
use Rattle.checkpoints.proofs.SavedStates.{AreSaved-more, AreSaved-with}
use Rattle.checkpoints.proofs.saving.save_if_due.Goals as goal

pub returns-in_ok-push-clause-saved : goal.returns-in_ok-push-clause-saved
returns-in_ok-push-clause-saved c kind budget before all stands are =
    let due : length c.args.saved.now.items < length before / 64 = omega (arith, c.if-len-event_count.true, all) in
    subst (AreSaved kind budget before) (sym c.in_ok-push.ensures.items)
    (AreSaved-more kind budget before c.args.saved.now.items are c.in_ok-copy.copy due (c.in_ok-copy.ensures kind budget before stands))

pub returns-in_ok-push-clause-more : goal.returns-in_ok-push-clause-more
returns-in_ok-push-clause-more c kind budget before x all stands are =
    let saved = c.args.saved.now.items in
    let due : length saved < length before / 64 = omega (arith, c.if-len-event_count.true, all) in
    let enough : length before ≤ 64 * length saved + 64 = are.all in
    let more : length (saved ++ c.in_ok-copy.copy ∷ []) ≡ length saved + 1 = length-append saved (c.in_ok-copy.copy ∷ []) in
    subst (AreSaved kind budget (before ++ x ∷ [])) (sym c.in_ok-push.ensures.items)
    (AreSaved-with kind budget before (saved ++ c.in_ok-copy.copy ∷ [])
    (AreSaved-more kind budget before saved are c.in_ok-copy.copy due (c.in_ok-copy.ensures kind budget before stands)) x (omega arith))

pub returns-else-len-event_count-clause-more : goal.returns-else-len-event_count-clause-more
returns-else-len-event_count-clause-more c kind budget before x all stands are =
    AreSaved-with kind budget before c.args.saved.now.items are x (omega (arith, c.if-len-event_count.false, all))
