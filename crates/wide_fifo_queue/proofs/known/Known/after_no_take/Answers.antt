use Rattle.std.proofs.Common.{◌≡◌, ◌↔◌, ℕ, List, [], ◌∷◌, ◌++◌, IsTrue, sym, ap, ◌∙◌, subst}
use Rattle.std.specs.List.{filter}
use Rattle.std.proofs.lemmas.Bool.{true≢false}
use Rattle.events.specs.Events.Mark.{Failed}
use Rattle.wide_fifo_queue.specs.declared.known.Owed.{Owed}
use Rattle.wide_fifo_queue.specs.Facts.{IsServed, Facts, AreFacts, facts_of, is_other, is_other_moment}
use Rattle.wide_fifo_queue.proofs.After.{dequeue_failed, dequeue_kills}
use Rattle.wide_fifo_queue.proofs.Parts.{with_takers}
use Rattle.wide_fifo_queue.proofs.known.Known.after_no_take.Goals as goal

pub returns-then-not-is_served : goal.returns-then-not-is_served
returns-then-not-is_served c =
    let f = facts_of c.args.self.now in
    let p = c.args.call.now in
    let takers : c.in_ok-takers.takers.items ≡ filter (is_other_moment p.since) f.takers = c.in_ok-takers.ensures ∙ ap (filter (is_other_moment p.since)) c.deref.ensures.value in
    let is : IsTrue c.is_served.result ↔ IsServed (filter (is_other_moment p.since) f.takers) f.owed
    = subst (λ (l : List Owed). IsTrue c.is_served.result ↔ IsServed (filter (is_other_moment p.since) f.takers) l) c.deref-3.ensures.value
    (subst (λ (l : List ℕ). IsTrue c.is_served.result ↔ IsServed l c.deref-3.result.now) (c.deref-2.ensures.value ∙ takers) c.is_served.ensures) in
    dequeue_kills f p c.requires.pending c.requires.call (λ s. true≢false (sym (is.1 s) ∙ c.if-not-is_served.true))

pub returns : goal.returns
returns c ms facts may =
    let f = facts_of c.args.self.now in
    let p = c.args.call.now in
    let takers : c.in_ok-takers.takers.items ≡ filter (is_other_moment p.since) f.takers = c.in_ok-takers.ensures ∙ ap (filter (is_other_moment p.since)) c.deref.ensures.value in
    let is : IsTrue c.is_served.result ↔ IsServed (filter (is_other_moment p.since) f.takers) f.owed
    = subst (λ (l : List Owed). IsTrue c.is_served.result ↔ IsServed (filter (is_other_moment p.since) f.takers) l) c.deref-3.ensures.value
    (subst (λ (l : List ℕ). IsTrue c.is_served.result ↔ IsServed l c.deref-3.result.now) (c.deref-2.ensures.value ∙ takers) c.is_served.ensures) in
    let pend : c.in_ok-pending.pending.items ≡ filter (is_other p.id) f.pending = c.in_ok-pending.ensures ∙ ap (filter (is_other p.id)) c.deref-4.ensures.value in
    subst (λ (g : Facts). AreFacts g (ms ++ Failed p.id ∷ []))
    (sym (with_takers f (facts_of c.in_ok-known.known) c.in_ok-pending.pending.items (filter (is_other p.id) f.pending) c.in_ok-known.ensures pend c.in_ok-takers.takers.items (filter (is_other_moment p.since) f.takers) takers))
    (dequeue_failed f p c.requires.pending c.requires.call (is.0 c.if-not-is_served.false) ms facts may)
