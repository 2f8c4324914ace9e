use Rattle.std.proofs.Common.{◌≡◌, ◌≢◌, Some, None, ℤ, List, [], ◌∷◌, ◌++◌, sym, ◌∙◌, subst, rules, to_z, of_z, w64}
use Rattle.std.specs.List.{Contains}
use Rattle.events.specs.Events.Mark.{Returned}
use Rattle.linspec.specs.MarkRule.{MayFollow}
use Rattle.models.specs.declared.finding.Answer.TheVariants.{Number}
use Rattle.models.specs.Objects.{answer_of}
use Rattle.wide_fifo_queue.specs.declared.known.Call.TheVariants as calls
use Rattle.wide_fifo_queue.specs.declared.known.Pending.{Pending}
use Rattle.wide_fifo_queue.specs.Kept.{IsAfter, Stands}
use Rattle.models.specs.declared.operation.Part.{Part}
use Rattle.wide_fifo_queue.specs.Facts.{facts_of}
use Rattle.wide_fifo_queue.proofs.Calls.{answer_number}
use Rattle.wide_fifo_queue.proofs.After.{not_pending, foreign}
use Rattle.wide_fifo_queue.proofs.known.Known.after_ok.Goals as goal

pub returns-in_default : goal.returns-in_default
returns-in_default c = not_pending (facts_of c.args.self.now) c.args.id (Returned c.args.id (answer_of c.args.part.now)) None (λ ms may. may) (λ q k. subst (λ (l : List Pending). (x : Pending) → Contains l x → x.id ≢ c.args.id) c.deref.ensures.value (c.pending_of.ensures.none c.in_default.is) q k)

pub returns-in_ok-known-in-Enqueue : goal.returns-in_ok-known-in-Enqueue
returns-in_ok-known-in-Enqueue c ms facts may = subst (λ i. Stands (Some c.in_ok-known-in-Enqueue.known) (ms ++ Returned i (answer_of c.args.part.now) ∷ [])) c.in-Some.ensures.found.1
    (c.in_ok-known-in-Enqueue.ensures (answer_of c.args.part.now) ms facts (subst (λ i. MayFollow ms (Returned i (answer_of c.args.part.now))) (sym c.in-Some.ensures.found.1) may))

pub returns-in_default-part : goal.returns-in_default-part
returns-in_default-part c =
    let f = facts_of c.args.self.now in
    let p = c.in-Some.call in
    let h : Contains f.pending p = subst (λ (l : List Pending). Contains l p) c.deref.ensures.value c.in-Some.ensures.found.0 in
    let e : p.id ≡ c.args.id = c.in-Some.ensures.found.1 in
    subst (λ i. IsAfter f (Returned i (answer_of c.args.part.now)) None) e (foreign f p h (answer_of c.args.part.now) c.requires
    (λ v q. (let r : calls.Dequeue ≡ calls.Enqueue v = sym c.in-Dequeue.is ∙ q in cc))
    (λ q v is. c.in_default-part.not-Int v (answer_number c.args.part.now v is)))

pub returns-in_ok-next-in-Dequeue : goal.returns-in_ok-next-in-Dequeue
returns-in_ok-next-in-Dequeue c =
    let f = facts_of c.args.self.now in
    let same : to_z w64 (of_z w64 c.in-Int.value) ≡ c.in-Int.value = search rules in
    subst (λ i. IsAfter f (Returned i (answer_of c.args.part.now)) c.in_ok-next-in-Dequeue.next) c.in-Some.ensures.found.1
    (subst (λ (q : Part). IsAfter f (Returned c.in-Some.call.id (answer_of q)) c.in_ok-next-in-Dequeue.next) (sym c.in-Int.is)
    (subst (λ (v : ℤ). IsAfter f (Returned c.in-Some.call.id (Number v)) c.in_ok-next-in-Dequeue.next) same c.in_ok-next-in-Dequeue.ensures))

pub returns-in-Other : goal.returns-in-Other
returns-in-Other c =
    let f = facts_of c.args.self.now in
    let p = c.in-Some.call in
    let h : Contains f.pending p = subst (λ (l : List Pending). Contains l p) c.deref.ensures.value c.in-Some.ensures.found.0 in
    let e : p.id ≡ c.args.id = c.in-Some.ensures.found.1 in
    subst (λ i. IsAfter f (Returned i (answer_of c.args.part.now)) None) e (foreign f p h (answer_of c.args.part.now) c.requires
    (λ v q. (let r : calls.Other ≡ calls.Enqueue v = sym c.in-Other.is ∙ q in cc))
    (λ q. (let r : calls.Other ≡ calls.Dequeue = sym c.in-Other.is ∙ q in cc)))
