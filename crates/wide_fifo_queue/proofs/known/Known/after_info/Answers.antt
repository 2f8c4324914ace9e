use Rattle.std.proofs.Common.{◌≡◌, [], ◌∷◌, ◌++◌, sym, ap, ◌∙◌, subst}
use Rattle.std.specs.List.{filter}
use Rattle.events.specs.Events.Mark.{Crashed}
use Rattle.wide_fifo_queue.specs.Facts.{Facts, AreFacts, facts_of, is_other}
use Rattle.wide_fifo_queue.proofs.After.{crashed}
use Rattle.wide_fifo_queue.proofs.Parts.{as_later}
use Rattle.wide_fifo_queue.proofs.known.Known.after_info.Goals as goal

pub returns : goal.returns
returns c ms facts may =
    let f = facts_of c.args.self.now in
    let pend : c.in_ok-pending.pending.items ≡ filter (is_other c.args.id) f.pending = c.in_ok-pending.ensures ∙ ap (filter (is_other c.args.id)) c.deref.ensures.value in
    subst (λ (g : Facts). AreFacts g (ms ++ Crashed c.args.id ∷ []))
    (sym (as_later f (facts_of c.in_ok-known.known) c.in_ok-pending.pending.items (filter (is_other c.args.id) f.pending) c.in_ok-known.ensures pend))
    (crashed f c.args.id ms facts may)
