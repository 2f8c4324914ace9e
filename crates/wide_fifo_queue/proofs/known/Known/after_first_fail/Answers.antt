use Rattle.std.proofs.Common.{◌≡◌, [], ◌∷◌, ◌++◌, sym, ap, ◌∙◌, subst}
use Rattle.std.specs.List.{filter}
use Rattle.events.specs.Events.Mark.{Failed}
use Rattle.wide_fifo_queue.specs.Facts.{Facts, AreFacts, facts_of, is_other, is_other_enqueue}
use Rattle.wide_fifo_queue.proofs.After.{first_failed}
use Rattle.wide_fifo_queue.proofs.Parts.{with_both}
use Rattle.wide_fifo_queue.proofs.known.Known.after_first_fail.Goals as goal

pub returns : goal.returns
returns c ms facts may =
    let f = facts_of c.args.self.now in
    let p = c.args.call.now in
    let pend : c.in_ok-pending.pending.items ≡ filter (is_other p.id) f.pending = c.in_ok-pending.ensures ∙ ap (filter (is_other p.id)) c.deref.ensures.value in
    let n = c.args.next in
    let late : c.in_ok-late.late.items ≡ filter (is_other_enqueue n.id) f.late = c.in_ok-late.ensures ∙ ap (filter (is_other_enqueue n.id)) c.deref-2.ensures.value in
    subst (λ (g : Facts). AreFacts g (ms ++ Failed p.id ∷ []))
    (sym (with_both f (facts_of c.in_ok-known.known) c.in_ok-pending.pending.items (filter (is_other p.id) f.pending) c.in_ok-known.ensures pend c.in_ok-entered.entered c.in_ok-late.late.items (filter (is_other_enqueue n.id) f.late) late))
    (first_failed f p c.requires.pending c.args.entry.now c.requires.first c.requires.call c.requires.same c.requires.stays n c.requires.next c.requires.value c.in_ok-entered.entered c.in_ok-entered.ensures.ordered c.in_ok-entered.ensures.with ms facts may)
