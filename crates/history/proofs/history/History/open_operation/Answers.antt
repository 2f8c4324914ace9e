use Rattle.std.proofs.Common.{Some, take, ◌∙◌, sym, ap, subst}
use Rattle.processes.specs.MoveRule.{FollowMoveRule}
use Rattle.history.specs.WellFormed.{HistoryView, moves_of}
use Rattle.history.proofs.OpenOperations.{index_of_current, within, its_operation, no_fault, not_current}
use Rattle.history.proofs.history.History.open_operation.Goals as goal

pub returns-then-current-process : goal.returns-then-current-process
returns-then-current-process c =
    let inside = c.self.inside in
    let events = take inside.count inside.events.items in
    rw (← c.self.view_is) (not_current inside.concurrency events c.args.process (subst (λ k. FollowMoveRule k (moves_of events)) c.self.invariant.0.number c.self.invariant.0.stand.rule) (λ h. c.if-current-process.true (rw (← c.self.view_is) at c.current.ensures ∙ h)))

pub bounds-events-index : goal.bounds-events-index
bounds-events-index c =
    let inside = c.self.inside in
    let events = c.events.result.now in
    let concurrency = ap (λ (v : HistoryView). v.concurrency) c.self.view_is in
    let current = sym (rw (← c.events.ensures, ← concurrency) at c.current.ensures) ∙ c.if-current-process.false in
    let index = index_of_current inside.concurrency events c.args.process (Some c.in_ok-index.index) current (rw (← c.events.ensures, ← concurrency) at c.in_ok-index.ensures) in
    within events c.args.process c.in_ok-index.index index

pub returns-in-Op : goal.returns-in-Op
returns-in-Op c =
    let inside = c.self.inside in
    let events = c.events.result.now in
    let concurrency = ap (λ (v : HistoryView). v.concurrency) c.self.view_is in
    let current = sym (rw (← c.events.ensures, ← concurrency) at c.current.ensures) ∙ c.if-current-process.false in
    let index = index_of_current inside.concurrency events c.args.process (Some c.in_ok-index.index) current (rw (← c.events.ensures, ← concurrency) at c.in_ok-index.ensures) in
    rw (← c.events.ensures) (its_operation events c.args.process c.in_ok-index.index c.index-events-index.result c.in-Op.op index c.in-Op.is)

pub returns-in-Fault : goal.returns-in-Fault
returns-in-Fault c =
    let inside = c.self.inside in
    let events = c.events.result.now in
    let concurrency = ap (λ (v : HistoryView). v.concurrency) c.self.view_is in
    let current = sym (rw (← c.events.ensures, ← concurrency) at c.current.ensures) ∙ c.if-current-process.false in
    let index = index_of_current inside.concurrency events c.args.process (Some c.in_ok-index.index) current (rw (← c.events.ensures, ← concurrency) at c.in_ok-index.ensures) in
    absurd (no_fault events c.args.process c.in_ok-index.index c.index-events-index.result _ index c.in-Fault.is)
