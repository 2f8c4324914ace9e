use Rattle.std.proofs.Common.{◌≡◌, ◌≢◌, List, sym, ◌∙◌, subst}
use Rattle.std.specs.List.{Contains}
use Rattle.models.specs.Objects.{answer_of}
use Rattle.events.specs.Events.Mark.{Returned}
use Rattle.wide_unordered_queue.specs.declared.pending.Call.TheVariants as calls
use Rattle.wide_unordered_queue.specs.declared.pending.Pending.{Pending}
use Rattle.wide_unordered_queue.specs.declared.change.Change.TheVariants.{Dies, Leaves}
use Rattle.wide_unordered_queue.specs.Facts.{facts_of}
use Rattle.wide_unordered_queue.specs.Kept.{IsTakenBy}
use Rattle.wide_unordered_queue.proofs.Taking.{not_pending, enqueued_now, foreign}
use Rattle.wide_unordered_queue.proofs.known.Known.after_ok.Goals as goal

pub returns-in_default : goal.returns-in_default
returns-in_default c = not_pending (facts_of c.args.self.now) c.args.id (Returned c.args.id (answer_of c.args.part.now)) Dies (λ ms may. may) (λ q k. subst (λ (l : List Pending). (x : Pending) → Contains l x → x.id ≢ c.args.id) c.deref.ensures.value (c.pending_of.ensures.none c.in_default.is) q k)

pub returns-in-Enqueue : goal.returns-in-Enqueue
returns-in-Enqueue c =
    let f = facts_of c.args.self.now in
    let p = c.in-Some.call in
    let h : Contains f.pending p = subst (λ (l : List Pending). Contains l p) c.deref.ensures.value c.in-Some.ensures.found.0 in
    let e : p.id ≡ c.args.id = c.in-Some.ensures.found.1 in
    let ans = answer_of c.args.part.now in
    subst (λ i. IsTakenBy f (Returned i ans) (Leaves i)) e (enqueued_now f p h _ ans c.in-Enqueue.is)

pub returns-in-Dequeue : goal.returns-in-Dequeue
returns-in-Dequeue c =
    let f = facts_of c.args.self.now in
    let p = c.in-Some.call in
    let h : Contains f.pending p = subst (λ (l : List Pending). Contains l p) c.deref.ensures.value c.in-Some.ensures.found.0 in
    let e : p.id ≡ c.args.id = c.in-Some.ensures.found.1 in
    let ans = answer_of c.args.part.now in
    subst (λ i. IsTakenBy f (Returned i ans) c.after_dequeue.result) e (c.after_dequeue.ensures c.in-Dequeue.is h)

pub returns-in-Other : goal.returns-in-Other
returns-in-Other c =
    let f = facts_of c.args.self.now in
    let p = c.in-Some.call in
    let h : Contains f.pending p = subst (λ (l : List Pending). Contains l p) c.deref.ensures.value c.in-Some.ensures.found.0 in
    let e : p.id ≡ c.args.id = c.in-Some.ensures.found.1 in
    let ans = answer_of c.args.part.now in
    subst (λ i. IsTakenBy f (Returned i ans) Dies) e (foreign f p h ans
    (λ v q. (let r : calls.Other ≡ calls.Enqueue v = sym c.in-Other.is ∙ q in cc))
    (λ q. (let r : calls.Other ≡ calls.Dequeue = sym c.in-Other.is ∙ q in cc)))
