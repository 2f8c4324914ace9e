use Rattle.std.proofs.lemmas.Result.{on_ok_weaker}
use Rattle.line_loop.specs.BetweenReads.{between}
use Rattle.line_loop.proofs.Running.{ends_none, ends_some}
use Rattle.line_loop.proofs.session.Session.answer_last.Goals as goal

pub returns-then-holds_nothing-clause-ok : goal.returns-then-holds_nothing-clause-ok
returns-then-holds_nothing-clause-ok g c = λ written.
    let m = g.M.LineMachine in
    ends_none m.may_reply (between m.state c.args.self.now written) (c.holds_nothing.ensures.none c.if-holds_nothing.true)

pub returns-clause-ok : goal.returns-clause-ok
returns-clause-ok g c =
    let m = g.M.LineMachine in
    let some = c.holds_nothing.ensures.some c.if-holds_nothing.false in
    on_ok_weaker c.answer_held.result (λ answered written. ends_some m.may_reply (between m.state c.args.self.now written) (between m.state c.answer_held.new.self written) some (answered written)) c.answer_held.ensures.ok
