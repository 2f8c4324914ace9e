use Rattle.std.proofs.Common.{◌≡◌, [], ◌∷◌, ◌++◌, sym, ap, ◌∙◌, subst, to_z, of_z, w64}
use Rattle.std.specs.List.{filter}
use Rattle.std.proofs.lemmas.Int.{to_z-of_z}
use Rattle.events.specs.Events.Mark.{Returned}
use Rattle.wide_fifo_queue.specs.declared.known.Call.TheVariants as calls
use Rattle.wide_fifo_queue.specs.declared.known.Waiting.{Waiting}
use Rattle.wide_fifo_queue.specs.Facts.{Facts, AreFacts, facts_of, is_other}
use Rattle.wide_fifo_queue.proofs.After.{put_out, put_waiting, put_entered}
use Rattle.wide_fifo_queue.proofs.Parts.{as_later, with_waiting}
use Rattle.wide_fifo_queue.proofs.known.Known.after_put.Goals as goal

pub returns-in_default : goal.returns-in_default
returns-in_default c answer ms facts may =
    let f = facts_of c.args.self.now in
    let p = c.args.call.now in
    let same : to_z w64 (of_z w64 c.args.value) ≡ c.args.value = to_z-of_z w64 c.args.value c.ranges.value in
    put_entered f p c.requires.pending (to_z w64 (of_z w64 c.args.value)) (c.requires.call ∙ ap calls.Enqueue (sym same)) c.requires.late answer (λ by. c.entry_of.ensures.none by c.in_default.is) (facts_of c.in_ok-known.known) ms facts may

pub returns-then-is_taken : goal.returns-then-is_taken
returns-then-is_taken c answer ms facts may =
    let f = facts_of c.args.self.now in
    let p = c.args.call.now in
    let same : to_z w64 (of_z w64 c.args.value) ≡ c.args.value = to_z-of_z w64 c.args.value c.ranges.value in
    let pend : c.in_ok-pending.pending.items ≡ filter (is_other p.id) f.pending = c.in_ok-pending.ensures ∙ ap (filter (is_other p.id)) c.deref.ensures.value in
    let taken = c.is_taken.ensures.taken c.if-is_taken.true in
    subst (λ (g : Facts). AreFacts g (ms ++ Returned p.id answer ∷ []))
    (sym (as_later f (facts_of c.in_ok-known.known) c.in_ok-pending.pending.items (filter (is_other p.id) f.pending) c.in_ok-known.ensures pend))
    (put_out f p c.requires.pending (to_z w64 (of_z w64 c.args.value)) (c.requires.call ∙ ap calls.Enqueue (sym same)) c.requires.late answer c.in-Some.entry taken.0 c.in-Some.ensures.found.0 c.in-Some.ensures.found.1 taken.1 ms facts may)

pub returns : goal.returns
returns c answer ms facts may =
    let f = facts_of c.args.self.now in
    let p = c.args.call.now in
    let same : to_z w64 (of_z w64 c.args.value) ≡ c.args.value = to_z-of_z w64 c.args.value c.ranges.value in
    let pend : c.in_ok-pending.pending.items ≡ filter (is_other p.id) f.pending = c.in_ok-pending.ensures ∙ ap (filter (is_other p.id)) c.deref.ensures.value in
    let v = to_z w64 (of_z w64 c.args.value) in
    let w : Waiting = record { value = v; by = c.args.self.now.moment } in
    subst (λ (g : Facts). AreFacts g (ms ++ Returned p.id answer ∷ []))
    (sym (with_waiting f (facts_of c.in_ok-known.known) c.in_ok-pending.pending.items (filter (is_other p.id) f.pending) c.in_ok-known.ensures pend c.in_ok-waiting.waiting (f.waiting ++ w ∷ []) c.in_ok-waiting.ensures))
    (put_waiting f p c.requires.pending v (c.requires.call ∙ ap calls.Enqueue (sym same)) c.requires.late answer c.in-Some.entry c.in-Some.ensures.found.0 c.in-Some.ensures.found.1 (c.is_taken.ensures.stays c.if-is_taken.false) ms facts may)
