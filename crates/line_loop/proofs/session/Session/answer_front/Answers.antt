use Rattle.std.proofs.Common.{◌∙◌}
use Rattle.std.proofs.lemmas.Result.{on_ok_weaker, on_err_weaker}
use Rattle.line_loop.specs.BetweenReads.{between}
use Rattle.line_loop.proofs.Running.{goes_line}
use Rattle.line_loop.proofs.session.Session.answer_front.Goals as goal

pub returns-clause-ok : goal.returns-clause-ok
returns-clause-ok g c =
    let m = g.M.LineMachine in
    on_ok_weaker c.answer_held.result (λ answered written.
    goes_line m.may_reply c.args.front.now (between m.state c.args.self.now written) (between m.state c.hold.new.self written) (between m.state c.answer_held.new.self written) (c.in_ok-hold.ensures.ok written) (answered written))
    c.answer_held.ensures.ok

pub returns-clause-kept : goal.returns-clause-kept
returns-clause-kept g c = on_err_weaker c.answer_held.result (λ kept. kept ∙ c.hold.ensures.replies) c.answer_held.ensures.kept
