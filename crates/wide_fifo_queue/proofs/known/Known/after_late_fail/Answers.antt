use Rattle.std.proofs.Common.{◌≡◌, [], ◌∷◌, ◌++◌, sym, ap, ◌∙◌, subst}
use Rattle.std.specs.List.{filter}
use Rattle.events.specs.Events.Mark.{Failed}
use Rattle.wide_fifo_queue.specs.Facts.{Facts, AreFacts, facts_of, is_other, is_other_enqueue}
use Rattle.wide_fifo_queue.proofs.After.{late_failed}
use Rattle.wide_fifo_queue.proofs.Parts.{with_late}
use Rattle.wide_fifo_queue.proofs.known.Known.after_late_fail.Goals as goal

pub returns : goal.returns
returns c ms facts may =
    let f = facts_of c.args.self.now in
    let p = c.args.call.now in
    let pend : c.in_ok-pending.pending.items ≡ filter (is_other p.id) f.pending = c.in_ok-pending.ensures ∙ ap (filter (is_other p.id)) c.deref.ensures.value in
    let late : c.in_ok-late.late.items ≡ filter (is_other_enqueue p.id) f.late = c.in_ok-late.ensures ∙ ap (filter (is_other_enqueue p.id)) c.deref-2.ensures.value in
    subst (λ (g : Facts). AreFacts g (ms ++ Failed p.id ∷ []))
    (sym (with_late f (facts_of c.in_ok-known.known) c.in_ok-pending.pending.items (filter (is_other p.id) f.pending) c.in_ok-known.ensures pend c.in_ok-late.late.items (filter (is_other_enqueue p.id) f.late) late))
    (late_failed f p c.requires.pending c.args.first.now c.requires.first c.requires.call c.requires.other ms facts may)
