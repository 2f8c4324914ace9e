use Rattle.std.proofs.Common.{◌≡◌, List, sym, ap, ◌∙◌, subst, to_z, of_z, w64}
use Rattle.std.specs.List.{Contains}
use Rattle.std.proofs.lemmas.Int.{to_z-of_z}
use Rattle.wide_fifo_queue.specs.declared.known.Call.TheVariants as calls
use Rattle.wide_fifo_queue.specs.declared.known.Enqueued.{Enqueued}
use Rattle.wide_fifo_queue.specs.Facts.{facts_of}
use Rattle.wide_fifo_queue.proofs.After.{enqueue_entered, enqueue_kills}
use Rattle.wide_fifo_queue.proofs.known.Known.after_lost.Goals as goal

pub returns-in_default : goal.returns-in_default
returns-in_default c =
    let f = facts_of c.args.self.now in
    let p = c.args.call.now in
    let same : to_z w64 (of_z w64 c.args.value) ≡ c.args.value = to_z-of_z w64 c.args.value c.ranges.value in
    enqueue_entered f p c.requires.pending (to_z w64 (of_z w64 c.args.value)) (c.requires.call ∙ ap calls.Enqueue (sym same)) (λ by. c.entry_of.ensures.none by c.in_default.is)

pub returns-then-is_taken : goal.returns-then-is_taken
returns-then-is_taken c =
    let f = facts_of c.args.self.now in
    let p = c.args.call.now in
    let same : to_z w64 (of_z w64 c.args.value) ≡ c.args.value = to_z-of_z w64 c.args.value c.ranges.value in
    let call : p.call ≡ calls.Enqueue c.in-Some.entry.value = c.requires.call ∙ ap calls.Enqueue (sym (c.in-Some.ensures.found.1 ∙ same)) in
    let taken = c.is_taken.ensures.taken c.if-is_taken.true in
    let own : c.in-Some.entry.id ≡ p.id = c.if-entry-call.false in
    enqueue_kills f p c.requires.pending c.in-Some.entry c.in-Some.ensures.found.0 call own taken.0 taken.1

pub after_late_fail-requires-clause-call : goal.after_late_fail-requires-clause-call
after_late_fail-requires-clause-call c = c.requires.call ∙ ap calls.Enqueue (sym (c.in-Some.ensures.found.1 ∙ to_z-of_z w64 c.args.value c.ranges.value))

pub after_only_fail-requires-clause-call : goal.after_only_fail-requires-clause-call
after_only_fail-requires-clause-call c = c.requires.call ∙ ap calls.Enqueue (sym (c.in-Some.ensures.found.1 ∙ to_z-of_z w64 c.args.value c.ranges.value))

pub after_first_fail-requires-clause-call : goal.after_first_fail-requires-clause-call
after_first_fail-requires-clause-call c = c.requires.call ∙ ap calls.Enqueue (sym (c.in-Some.ensures.found.1 ∙ to_z-of_z w64 c.args.value c.ranges.value))

pub after_only_fail-requires-clause-none : goal.after_only_fail-requires-clause-none
after_only_fail-requires-clause-none c x h q = c.first_of.ensures.none c.in_default-first_of.is x (subst (λ (l : List Enqueued). Contains l x) (sym c.deref.ensures.value) h) (q ∙ c.in-Some.ensures.found.1)
