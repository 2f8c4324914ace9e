use Rattle.std.proofs.Common.{◌++◌, ap, ◌∙◌}
use Rattle.line_loop.proofs.Running.{answers_held_line}
use Rattle.line_loop.proofs.session.Session.answer_held.Goals as goal

pub returns-clause-ok : goal.returns-clause-ok
returns-clause-ok g c =
    let m = g.M.LineMachine in
    let at = c.self.inside in
    answers_held_line m.may_reply m.state (record { machine = at.machine; held = at.held.items; replies = at.replies.items }) c.args.self.now c.self.view_is c.deref.result.now c.deref.ensures.value
    c.make_reply.new.machine c.make_reply.new.reply.items c.extend_from_slice.new.self.items c.clear.new.self.items c.in_ok-make_reply.ensures.ok
    (c.in_ok-extend_from_slice.ensures.items ∙ ap (λ l. at.replies.items ++ l) c.deref-2.ensures.value) c.clear.ensures.items
