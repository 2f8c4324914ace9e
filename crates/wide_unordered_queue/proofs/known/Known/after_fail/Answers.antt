use Rattle.std.proofs.Common.{◌≡◌, ◌≢◌, ◌<◌, List, sym, subst, arith, rules, to_z, of_z, w64}
use Rattle.std.specs.List.{Contains}
use Rattle.events.specs.Events.Mark.{Failed}
use Rattle.wide_unordered_queue.specs.declared.pending.Pending.{Pending}
use Rattle.wide_unordered_queue.specs.declared.change.Change.TheVariants.{Dies, Leaves, Lowers}
use Rattle.wide_unordered_queue.specs.Facts.{facts_of}
use Rattle.wide_unordered_queue.specs.Kept.{IsTakenBy}
use Rattle.wide_unordered_queue.proofs.Taking.{not_pending, failed_now, other_failed, killed_by_fail}
use Rattle.wide_unordered_queue.proofs.known.Known.after_fail.Goals as goal

pub returns-in_default : goal.returns-in_default
returns-in_default c = not_pending (facts_of c.args.self.now) c.args.id (Failed c.args.id) (Leaves c.args.id) (λ ms may. may) (λ q k. subst (λ (l : List Pending). (x : Pending) → Contains l x → x.id ≢ c.args.id) c.deref.ensures.value (c.pending_of.ensures.none c.in_default.is) q k)

pub returns-in_default-call : goal.returns-in_default-call
returns-in_default-call c =
    let f = facts_of c.args.self.now in
    let p = c.in-Some.call in
    let h : Contains f.pending p = subst (λ (l : List Pending). Contains l p) c.deref.ensures.value c.in-Some.ensures.found.0 in
    let e : p.id ≡ c.args.id = c.in-Some.ensures.found.1 in
    subst (λ i. IsTakenBy f (Failed i) (Leaves i)) e (other_failed f p h (λ v q. c.in_default-call.not-Enqueue v q))

pub returns-then-call-eq0 : goal.returns-then-call-eq0
returns-then-call-eq0 c =
    let f = facts_of c.args.self.now in
    let p = c.in-Some.call in
    let h : Contains f.pending p = subst (λ (l : List Pending). Contains l p) c.deref.ensures.value c.in-Some.ensures.found.0 in
    let e : p.id ≡ c.args.id = c.in-Some.ensures.found.1 in
    subst (λ i. IsTakenBy f (Failed i) Dies) e (killed_by_fail f p h c.in-Enqueue.value c.in-Enqueue.is c.if-call-eq0.true)

pub returns : goal.returns
returns c =
    let f = facts_of c.args.self.now in
    let p = c.in-Some.call in
    let h : Contains f.pending p = subst (λ (l : List Pending). Contains l p) c.deref.ensures.value c.in-Some.ensures.found.0 in
    let e : p.id ≡ c.args.id = c.in-Some.ensures.found.1 in
    let ne : p.least ≢ 0 = c.if-call-eq0.false in
    let some : 0 < p.least = omega arith in
    let same : to_z w64 (of_z w64 c.in-Enqueue.value) ≡ c.in-Enqueue.value = search rules in
    subst (λ z. IsTakenBy f (Failed c.args.id) (Lowers c.args.id z p.least)) (sym same)
    (subst (λ i. IsTakenBy f (Failed i) (Lowers i c.in-Enqueue.value p.least)) e (failed_now f p h c.in-Enqueue.value c.in-Enqueue.is some))
