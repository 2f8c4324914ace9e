use Rattle.std.proofs.Common.{◌≡◌, sym, ap, ◌∙◌, subst, take}
use Rattle.history.specs.WellFormed.{HistoryView, IsHistoryOf}
use Rattle.history.proofs.Prefixes.{history-take}
use Rattle.history.proofs.history.History.prepare_cut.Goals as goal

pub after-requires-clause-history : goal.after-requires-clause-history
after-requires-clause-history c =
    let inside = c.self.inside in
    let same : c.events.result.now ≡ take inside.count inside.events.items = c.events.ensures ∙ sym (ap (λ (v : HistoryView). v.events) c.self.view_is) in
    history-take inside.concurrency c.args.n c.events.result.now (subst (IsHistoryOf inside.concurrency) (sym same) c.self.invariant.0.history)
