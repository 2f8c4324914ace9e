use Rattle.std.proofs.Common.{◌≡◌, ◌≢◌, None, List, [], ◌∷◌, ◌++◌, sym, ap, ◌∙◌, subst}
use Rattle.std.specs.List.{Contains, filter}
use Rattle.events.specs.Events.Mark.{Failed}
use Rattle.wide_fifo_queue.specs.declared.known.Pending.{Pending}
use Rattle.wide_fifo_queue.specs.Kept.{IsAfter}
use Rattle.wide_fifo_queue.specs.Facts.{Facts, AreFacts, facts_of, later, is_other}
use Rattle.wide_fifo_queue.proofs.After.{Becomes, not_pending, other_failed}
use Rattle.wide_fifo_queue.proofs.Parts.{as_later}
use Rattle.wide_fifo_queue.proofs.known.Known.after_fail.Goals as goal

pub returns-in_default : goal.returns-in_default
returns-in_default c = not_pending (facts_of c.args.self.now) c.args.id (Failed c.args.id) None (λ ms may. may) (λ q k. subst (λ (l : List Pending). (x : Pending) → Contains l x → x.id ≢ c.args.id) c.deref.ensures.value (c.pending_of.ensures.none c.in_default.is) q k)

pub returns-in_ok-next-in-Enqueue : goal.returns-in_ok-next-in-Enqueue
returns-in_ok-next-in-Enqueue c = subst (λ i. IsAfter (facts_of c.args.self.now) (Failed i) c.in_ok-next-in-Enqueue.next) c.in-Some.ensures.found.1 c.in_ok-next-in-Enqueue.ensures

pub returns-in_ok-next-in-Dequeue : goal.returns-in_ok-next-in-Dequeue
returns-in_ok-next-in-Dequeue c = subst (λ i. IsAfter (facts_of c.args.self.now) (Failed i) c.in_ok-next-in-Dequeue.next) c.in-Some.ensures.found.1 c.in_ok-next-in-Dequeue.ensures

pub returns-in_ok-known-in-Other : goal.returns-in_ok-known-in-Other
returns-in_ok-known-in-Other c ms facts may =
    let f = facts_of c.args.self.now in
    let p = c.in-Some.call in
    let h : Contains f.pending p = subst (λ (l : List Pending). Contains l p) c.deref.ensures.value c.in-Some.ensures.found.0 in
    let e : p.id ≡ c.args.id = c.in-Some.ensures.found.1 in
    let pend : c.in_ok-pending-in-Other.pending.items ≡ filter (is_other c.args.id) f.pending = c.in_ok-pending-in-Other.ensures ∙ ap (filter (is_other c.args.id)) c.deref-in-Other.ensures.value in
    subst (λ (g : Facts). AreFacts g (ms ++ Failed c.args.id ∷ []))
    (sym (as_later f (facts_of c.in_ok-known-in-Other.known) c.in_ok-pending-in-Other.pending.items (filter (is_other c.args.id) f.pending) c.in_ok-known-in-Other.ensures pend))
    (subst (λ i. Becomes f (Failed i) (later (filter (is_other i) f.pending) f)) e (other_failed f p h c.in-Other.is) ms facts may)
