use Rattle.std.proofs.Common.{◌≡◌, ◌≢◌, ◌↔◌, ℕ, ℤ, ◌⊎◌, Some, List, [], ◌∷◌, ◌++◌, map, take, drop, IsTrue, sym, ap, ◌∙◌, subst, rules, to_z, of_z, w64}
use Rattle.std.specs.List.{Contains, filter}
use Rattle.std.proofs.lemmas.Bool.{true≢false}
use Rattle.events.specs.Events.Mark.{Returned}
use Rattle.models.specs.declared.finding.Answer.TheVariants.{Number}
use Rattle.wide_fifo_queue.specs.declared.known.Enqueued.{Enqueued}
use Rattle.wide_fifo_queue.specs.declared.known.Owed.{Owed}
use Rattle.wide_fifo_queue.specs.Facts.{IsByValue, IsServed, Facts, AreFacts, facts_of, is_other, is_other_moment, is_other_value, owed_by}
use Rattle.wide_fifo_queue.specs.Queries.{IsWaitingBut}
use Rattle.wide_fifo_queue.proofs.After.{owed_then, take_unserved, taken}
use Rattle.wide_fifo_queue.proofs.Parts.{with_all}
use Rattle.wide_fifo_queue.proofs.known.Known.after_take.Goals as goal

pub returns-then-not-is_served : goal.returns-then-not-is_served
returns-then-not-is_served c =
    let f = facts_of c.args.self.now in
    let p = c.args.call.now in
    let e = c.args.entry in
    let same : to_z w64 (of_z w64 c.args.entry.value) ≡ c.args.entry.value = search rules in
    let takers : c.in_ok-takers.takers.items ≡ filter (is_other_moment p.since) f.takers = c.in_ok-takers.ensures ∙ ap (filter (is_other_moment p.since)) c.deref.ensures.value in
    let but : IsWaitingBut f.waiting e.value c.args.due.now c.in_ok-waiting.waiting = subst (λ v. IsWaitingBut f.waiting v c.args.due.now c.in_ok-waiting.waiting) same c.in_ok-waiting.ensures in
    let old : c.in_ok-owed.owed.items ≡ filter (is_other_value e.value) f.owed = c.in_ok-owed.ensures ∙ ap (filter (is_other_value (to_z w64 (of_z w64 c.args.entry.value)))) c.deref-2.ensures.value ∙ ap (λ v. filter (is_other_value v) f.owed) same in
    let owed : c.put_owed.new.owed.items ≡ owed_then f p c.requires.pending c.requires.call c.requires.late e c.requires.entry c.requires.stays c.args.due.now c.requires.due c.in_ok-waiting.waiting but c.passed-many.result c.passed-many.ensures.before c.passed-many.ensures.behind
    = c.in_ok-put_owed.ensures ∙ ap (λ l. l ++ map (owed_by f.now) (take c.passed-many.result c.in_ok-waiting.waiting)) old in
    let is : IsTrue c.is_served.result ↔ IsServed (filter (is_other_moment p.since) f.takers) (owed_then f p c.requires.pending c.requires.call c.requires.late e c.requires.entry c.requires.stays c.args.due.now c.requires.due c.in_ok-waiting.waiting but c.passed-many.result c.passed-many.ensures.before c.passed-many.ensures.behind)
    = subst (λ (l : List Owed). IsTrue c.is_served.result ↔ IsServed (filter (is_other_moment p.since) f.takers) l) (c.deref-4.ensures.value ∙ owed)
    (subst (λ (l : List ℕ). IsTrue c.is_served.result ↔ IsServed l c.deref-4.result.now) (c.deref-3.ensures.value ∙ takers) c.is_served.ensures) in
    take_unserved f p c.requires.pending c.requires.call c.requires.late e c.requires.entry c.requires.stays c.args.due.now c.requires.due c.in_ok-waiting.waiting but c.passed-many.result c.passed-many.ensures.before c.passed-many.ensures.behind
    (λ s. true≢false (sym (is.1 s) ∙ c.if-not-is_served.true))

pub returns : goal.returns
returns c ms facts may =
    let f = facts_of c.args.self.now in
    let p = c.args.call.now in
    let e = c.args.entry in
    let same : to_z w64 (of_z w64 c.args.entry.value) ≡ c.args.entry.value = search rules in
    let takers : c.in_ok-takers.takers.items ≡ filter (is_other_moment p.since) f.takers = c.in_ok-takers.ensures ∙ ap (filter (is_other_moment p.since)) c.deref.ensures.value in
    let but : IsWaitingBut f.waiting e.value c.args.due.now c.in_ok-waiting.waiting = subst (λ v. IsWaitingBut f.waiting v c.args.due.now c.in_ok-waiting.waiting) same c.in_ok-waiting.ensures in
    let old : c.in_ok-owed.owed.items ≡ filter (is_other_value e.value) f.owed = c.in_ok-owed.ensures ∙ ap (filter (is_other_value (to_z w64 (of_z w64 c.args.entry.value)))) c.deref-2.ensures.value ∙ ap (λ v. filter (is_other_value v) f.owed) same in
    let owed : c.put_owed.new.owed.items ≡ owed_then f p c.requires.pending c.requires.call c.requires.late e c.requires.entry c.requires.stays c.args.due.now c.requires.due c.in_ok-waiting.waiting but c.passed-many.result c.passed-many.ensures.before c.passed-many.ensures.behind
    = c.in_ok-put_owed.ensures ∙ ap (λ l. l ++ map (owed_by f.now) (take c.passed-many.result c.in_ok-waiting.waiting)) old in
    let is : IsTrue c.is_served.result ↔ IsServed (filter (is_other_moment p.since) f.takers) (owed_then f p c.requires.pending c.requires.call c.requires.late e c.requires.entry c.requires.stays c.args.due.now c.requires.due c.in_ok-waiting.waiting but c.passed-many.result c.passed-many.ensures.before c.passed-many.ensures.behind)
    = subst (λ (l : List Owed). IsTrue c.is_served.result ↔ IsServed (filter (is_other_moment p.since) f.takers) l) (c.deref-4.ensures.value ∙ owed)
    (subst (λ (l : List ℕ). IsTrue c.is_served.result ↔ IsServed l c.deref-4.result.now) (c.deref-3.ensures.value ∙ takers) c.is_served.ensures) in
    let pend : c.in_ok-pending.pending.items ≡ filter (is_other p.id) f.pending = c.in_ok-pending.ensures ∙ ap (filter (is_other p.id)) c.deref-5.ensures.value in
    subst (λ (g : Facts). AreFacts g (ms ++ Returned p.id (Number e.value) ∷ []))
    (sym (with_all f (facts_of c.in_ok-known.known) c.in_ok-pending.pending.items (filter (is_other p.id) f.pending) c.in_ok-known.ensures pend
    c.in_ok-entered.entered c.in_ok-rest.rest (drop c.passed-many.result c.in_ok-waiting.waiting) c.put_owed.new.owed.items _ c.in_ok-takers.takers.items (filter (is_other_moment p.since) f.takers) c.in_ok-rest.ensures owed takers))
    (taken f p c.requires.pending c.requires.call c.requires.late e c.requires.entry c.requires.stays c.args.due.now c.requires.due c.in_ok-waiting.waiting but c.passed-many.result c.passed-many.ensures.before c.passed-many.ensures.behind
    c.requires.in_time (is.0 c.if-not-is_served.false) c.in_ok-entered.entered c.in_ok-entered.ensures.ordered
    (subst (λ (v : ℤ). IsByValue f.entered → (x : Enqueued) → Contains c.in_ok-entered.entered x ↔ ((x ≡ record { value = v; id = e.id; since = e.since; taken = Some f.now }) ⊎ (Contains f.entered x × (x.value ≢ v)))) same c.in_ok-entered.ensures.with) ms facts may)
