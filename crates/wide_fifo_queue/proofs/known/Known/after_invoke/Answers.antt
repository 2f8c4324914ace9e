use Rattle.std.proofs.Common.{◌≡◌, [], ◌∷◌, ◌++◌, refl, sym, ap, ◌∙◌, subst}
use Rattle.events.specs.Events.Mark.{Invoked}
use Rattle.wide_fifo_queue.specs.declared.known.Pending.{Pending}
use Rattle.wide_fifo_queue.specs.Facts.{Facts, AreFacts, facts_of}
use Rattle.wide_fifo_queue.proofs.After.{other_invoked}
use Rattle.wide_fifo_queue.proofs.Parts.{as_later}
use Rattle.wide_fifo_queue.proofs.known.Known.after_invoke.Goals as goal

pub returns-in_ok-known-in-Enqueue : goal.returns-in_ok-known-in-Enqueue
returns-in_ok-known-in-Enqueue c ms facts may = c.in_ok-known-in-Enqueue.ensures c.args.op.now (sym c.call_of.ensures) ms facts may

pub returns-in_ok-known-in-Dequeue : goal.returns-in_ok-known-in-Dequeue
returns-in_ok-known-in-Dequeue c ms facts may = c.in_ok-known-in-Dequeue.ensures c.args.op.now (sym c.call_of.ensures) ms facts may

pub returns-in_ok-known-in-Other : goal.returns-in_ok-known-in-Other
returns-in_ok-known-in-Other c ms facts may =
    let f = facts_of c.args.self.now in
    let p : Pending = record { id = c.args.id; call = c.call_of.result; since = c.args.self.now.moment } in
    let pend : c.in_ok-pending-in-Other.pending.items ≡ f.pending ++ p ∷ [] = c.in_ok-pending-in-Other.ensures ∙ ap (λ l. l ++ p ∷ []) c.deref.ensures.value in
    subst (λ (g : Facts). AreFacts g (ms ++ Invoked p.id c.args.op.now ∷ []))
    (sym (as_later f (facts_of c.in_ok-known-in-Other.known) c.in_ok-pending-in-Other.pending.items (f.pending ++ p ∷ []) c.in_ok-known-in-Other.ensures pend))
    (other_invoked f p refl c.args.op.now (sym c.call_of.ensures) c.in-Other.is ms facts may)
