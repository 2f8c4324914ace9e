use Rattle.std.proofs.Common.{◌≡◌, length, take, ap, ◌∙◌, arith}
use Rattle.history.specs.WellFormed.{HistoryView, moves_of}
use Rattle.processes.specs.MoveRule.{current_of}
use Rattle.history.proofs.history.History.current.Goals as goal

pub current-requires : goal.current-requires
current-requires c =
    let inside = c.self.inside in
    let number : length inside.clients.threads ≡ inside.concurrency = c.self.invariant.0.number in
    let same : inside.concurrency ≡ c.args.self.now.concurrency = ap (λ (v : HistoryView). v.concurrency) c.self.view_is in
    omega arith

pub returns : goal.returns
returns c =
    let inside = c.self.inside in
    let moves = moves_of (take inside.count inside.events.items) in
    c.current.ensures.current moves c.self.invariant.0.stand
    ∙ ap (λ k. current_of k moves c.args.thread) (c.self.invariant.0.number ∙ ap (λ (v : HistoryView). v.concurrency) c.self.view_is)
    ∙ ap (λ l. current_of c.args.self.now.concurrency (moves_of l) c.args.thread) (ap (λ (v : HistoryView). v.events) c.self.view_is)
