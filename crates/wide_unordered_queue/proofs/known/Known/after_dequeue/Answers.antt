use Rattle.std.proofs.Common.{◌≡◌, ◌≢◌, ◌<◌, sym, ap, ◌∙◌, subst, arith, rules, to_z, of_z, w64}
use Rattle.models.specs.declared.operation.Part.{Part}
use Rattle.models.specs.declared.finding.Answer.TheVariants.{Number}
use Rattle.models.specs.Objects.{answer_of}
use Rattle.models.specs.Runs.{times_in}
use Rattle.events.specs.Events.Mark.{Returned}
use Rattle.wide_unordered_queue.specs.declared.pending.Call.TheVariants as calls
use Rattle.wide_unordered_queue.specs.declared.change.Change.TheVariants.{Dies, Lowers}
use Rattle.wide_unordered_queue.specs.Facts.{facts_of}
use Rattle.wide_unordered_queue.specs.Kept.{IsTakenBy}
use Rattle.wide_unordered_queue.proofs.Tests.{answer_number}
use Rattle.wide_unordered_queue.proofs.Taking.{foreign, dequeued_now, killed_by_dequeue}
use Rattle.wide_unordered_queue.proofs.known.Known.after_dequeue.Goals as goal

pub returns-in_default : goal.returns-in_default
returns-in_default c reads h = foreign (facts_of c.args.self.now) c.args.call.now h (answer_of c.args.part.now) (λ v q. (let r : calls.Dequeue ≡ calls.Enqueue v = sym reads ∙ q in cc)) (λ r v q. c.in_default.not-Int v (answer_number c.args.part.now v q))

pub returns-then-times-eq0 : goal.returns-then-times-eq0
returns-then-times-eq0 c reads h =
    let f = facts_of c.args.self.now in
    let p = c.args.call.now in
    let v = c.in-Int.value in
    let same : to_z w64 (of_z w64 v) ≡ v = search rules in
    let none : times_in v f.backlog ≡ 0 = ap (λ z. times_in z f.backlog) (sym same) ∙ sym c.times-times.ensures ∙ c.if-times-eq0.true in
    subst (λ (q : Part). IsTakenBy f (Returned p.id (answer_of q)) Dies) (sym c.in-Int.is) (killed_by_dequeue f p h v reads none)

pub returns : goal.returns
returns c reads h =
    let f = facts_of c.args.self.now in
    let p = c.args.call.now in
    let v = c.in-Int.value in
    let same : to_z w64 (of_z w64 v) ≡ v = search rules in
    let is : c.times-times.result ≡ times_in v f.backlog = c.times-times.ensures ∙ ap (λ z. times_in z f.backlog) same in
    let ne : c.times-times.result ≢ 0 = c.if-times-eq0.false in
    let some : 0 < c.times-times.result = omega arith in
    subst (λ (q : Part). IsTakenBy f (Returned p.id (answer_of q)) (Lowers p.id (to_z w64 (of_z w64 v)) c.times-times.result)) (sym c.in-Int.is) (subst (λ z. IsTakenBy f (Returned p.id (Number v)) (Lowers p.id z c.times-times.result)) (sym same) (dequeued_now f p h v c.times-times.result reads is some))
