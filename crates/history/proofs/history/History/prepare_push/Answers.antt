use Rattle.std.proofs.Common.{◌≡◌, ◌++◌, ◌∷◌, [], None, length, ap, ◌∙◌}
use Rattle.std.proofs.lemmas.Result.{err_from_is_err_and}
use Rattle.history.specs.HistoryInvariant.{brought}
use Rattle.history.specs.WellFormed.{HistoryView}
use Rattle.history.proofs.Refusing.{may_refuse}
use Rattle.history.proofs.Behind.{none_behind, ready_push}
use Rattle.history.proofs.history.History.prepare_push.Goals as goal

pub returns-in_err-test-clause-refused : goal.returns-in_err-test-clause-refused
returns-in_err-test-clause-refused c =
    let p = err_from_is_err_and c.from_residual.result c.from_residual.ensures.1 in
    rw (p.1, p.2)
    (rw c.drop_prepared.ensures at (may_refuse c.drop_prepared.new.self.concurrency c.drop_prepared.new.self.events c.args.event c.in_err-test.field-0.0 c.in_err-test.ensures.refused))

pub invariant_of-self-2 : goal.invariant_of-self-2
invariant_of-self-2 c =
    let inside = c.self.inside in
    let nothing : brought inside.events.items inside.prepared ≡ None = ap (λ (v : HistoryView). v.next) (c.self.view_is ∙ c.drop_prepared.ensures) in
    let len : length inside.events.items ≡ inside.count = none_behind inside.concurrency inside.count inside.events.items inside.prepared nothing c.self.invariant.1 in
    let more : c.push_reserved.new.self.items ≡ inside.events.items ++ c.args.event ∷ [] =
    c.push_reserved.ensures.items ∙ ap (λ l. l ++ c.args.event ∷ []) c.in_ok-reserve.ensures.items in
    ready_push inside.concurrency inside.count inside.events.items c.push_reserved.new.self.items inside.clients.threads inside.clients.opened.items c.args.event c.self.invariant.0 len
    (rw (← c.self.view_is) at c.in_ok-test.ensures.ok) more
