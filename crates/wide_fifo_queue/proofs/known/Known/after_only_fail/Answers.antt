use Rattle.std.proofs.Common.{◌≡◌, ◌≢◌, ◌↔◌, ℤ, [], ◌∷◌, ◌++◌, sym, ap, ◌∙◌, subst, to_z, of_z, w64, rules}
use Rattle.std.specs.List.{Contains, filter}
use Rattle.events.specs.Events.Mark.{Failed}
use Rattle.wide_fifo_queue.specs.declared.known.Enqueued.{Enqueued}
use Rattle.wide_fifo_queue.specs.Facts.{Facts, AreFacts, IsByValue, facts_of, is_other}
use Rattle.wide_fifo_queue.proofs.After.{only_failed}
use Rattle.wide_fifo_queue.proofs.Parts.{with_entered}
use Rattle.wide_fifo_queue.proofs.known.Known.after_only_fail.Goals as goal

pub returns : goal.returns
returns c ms facts may =
    let f = facts_of c.args.self.now in
    let p = c.args.call.now in
    let pend : c.in_ok-pending.pending.items ≡ filter (is_other p.id) f.pending = c.in_ok-pending.ensures ∙ ap (filter (is_other p.id)) c.deref.ensures.value in
    let e = c.args.entry.now in
    let same : to_z w64 (of_z w64 c.args.entry.now.value) ≡ c.args.entry.now.value = search rules in
    subst (λ (g : Facts). AreFacts g (ms ++ Failed p.id ∷ []))
    (sym (with_entered f (facts_of c.in_ok-known.known) c.in_ok-pending.pending.items (filter (is_other p.id) f.pending) c.in_ok-known.ensures pend c.in_ok-entered.entered))
    (only_failed f p c.requires.pending e c.requires.first c.requires.call c.requires.same c.requires.stays c.requires.none c.in_ok-entered.entered c.in_ok-entered.ensures.ordered
    (subst (λ (v : ℤ). IsByValue f.entered → (x : Enqueued) → Contains c.in_ok-entered.entered x ↔ (Contains f.entered x × (x.value ≢ v))) same c.in_ok-entered.ensures.without) ms facts may)
