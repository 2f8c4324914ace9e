use Rattle.std.proofs.Common.{◌≡◌, [], ◌∷◌, ◌++◌, sym, ap, ◌∙◌, subst}
use Rattle.events.specs.Events.Mark.{Invoked}
use Rattle.wide_fifo_queue.specs.Facts.{Facts, AreFacts, facts_of}
use Rattle.wide_fifo_queue.proofs.After.{dequeue_invoked}
use Rattle.wide_fifo_queue.proofs.Parts.{with_takers}
use Rattle.wide_fifo_queue.proofs.known.Known.after_dequeue.Goals as goal

pub returns : goal.returns
returns c op q ms facts may =
    let f = facts_of c.args.self.now in
    let p = c.args.call in
    let pend : c.in_ok-pending.pending.items ≡ f.pending ++ p ∷ [] = c.in_ok-pending.ensures ∙ ap (λ l. l ++ p ∷ []) c.deref.ensures.value in
    let takers : c.push.new.self.items ≡ f.takers ++ p.since ∷ [] = c.in_ok-push.ensures.items ∙ ap (λ (g : Facts). g.takers ++ p.since ∷ []) c.in_ok-known.ensures in
    subst (λ (g : Facts). AreFacts g (ms ++ Invoked p.id op ∷ []))
    (sym (with_takers f (facts_of c.in_ok-known.known) c.in_ok-pending.pending.items (f.pending ++ p ∷ []) c.in_ok-known.ensures pend c.push.new.self.items (f.takers ++ p.since ∷ []) takers))
    (dequeue_invoked f p c.requires.since op q c.requires.call ms facts may)
