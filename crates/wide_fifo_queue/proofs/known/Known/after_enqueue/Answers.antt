use Rattle.std.proofs.Common.{◌≡◌, [], ◌∷◌, ◌++◌, sym, ap, ◌∙◌, subst, to_z, of_z, w64}
use Rattle.std.proofs.lemmas.Int.{to_z-of_z}
use Rattle.events.specs.Events.Mark.{Invoked}
use Rattle.wide_fifo_queue.specs.declared.known.Call.TheVariants as calls
use Rattle.wide_fifo_queue.specs.Facts.{Facts, AreFacts, facts_of}
use Rattle.wide_fifo_queue.proofs.After.{entry_by, first_invoked, twin_invoked}
use Rattle.wide_fifo_queue.proofs.Parts.{with_late, with_entered}
use Rattle.wide_fifo_queue.proofs.known.Known.after_enqueue.Goals as goal

pub returns-in_default : goal.returns-in_default
returns-in_default c op q ms facts may =
    let f = facts_of c.args.self.now in
    let p = c.args.call in
    let same : to_z w64 (of_z w64 c.args.value) ≡ c.args.value = to_z-of_z w64 c.args.value c.ranges.value in
    let pend : c.in_ok-pending.pending.items ≡ f.pending ++ p ∷ [] = c.in_ok-pending.ensures ∙ ap (λ l. l ++ p ∷ []) c.deref.ensures.value in
    let is : p.call ≡ calls.Enqueue (to_z w64 (of_z w64 c.args.value)) = c.requires.call ∙ ap calls.Enqueue (sym same) in
    subst (λ (g : Facts). AreFacts g (ms ++ Invoked p.id op ∷ []))
    (sym (with_entered f (facts_of c.in_ok-known.known) c.in_ok-pending.pending.items (f.pending ++ p ∷ []) c.in_ok-known.ensures pend c.in_ok-entered.entered))
    (first_invoked f p c.requires.since op q (to_z w64 (of_z w64 c.args.value)) is c.in_ok-entered.entered c.in_ok-entered.ensures.ordered (λ by. c.entry_of.ensures.none by c.in_default.is) c.in_ok-entered.ensures.with ms facts may)

pub returns : goal.returns
returns c op q ms facts may =
    let f = facts_of c.args.self.now in
    let p = c.args.call in
    let same : to_z w64 (of_z w64 c.args.value) ≡ c.args.value = to_z-of_z w64 c.args.value c.ranges.value in
    let v = to_z w64 (of_z w64 c.args.value) in
    let pend : c.in_ok-pending.pending.items ≡ f.pending ++ p ∷ [] = c.in_ok-pending.ensures ∙ ap (λ l. l ++ p ∷ []) c.deref.ensures.value in
    let is : p.call ≡ calls.Enqueue v = c.requires.call ∙ ap calls.Enqueue (sym same) in
    let late : c.push.new.self.items ≡ f.late ++ entry_by p v ∷ [] = c.in_ok-push.ensures.items ∙ ap (λ (g : Facts). g.late ++ entry_by p v ∷ []) c.in_ok-known.ensures in
    subst (λ (g : Facts). AreFacts g (ms ++ Invoked p.id op ∷ []))
    (sym (with_late f (facts_of c.in_ok-known.known) c.in_ok-pending.pending.items (f.pending ++ p ∷ []) c.in_ok-known.ensures pend c.push.new.self.items (f.late ++ entry_by p v ∷ []) late))
    (twin_invoked f p c.requires.since op q v is c.in-Some.first c.in-Some.ensures.found.0 c.in-Some.ensures.found.1 ms facts may)
