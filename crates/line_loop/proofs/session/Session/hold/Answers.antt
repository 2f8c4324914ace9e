use Rattle.line_loop.proofs.Running.{goes_held}
use Rattle.line_loop.proofs.session.Session.hold.Goals as goal

pub returns-clause-ok : goal.returns-clause-ok
returns-clause-ok g c = λ written.
    let m = g.M.LineMachine in
    let at = c.self.inside in
    goes_held m.may_reply m.state c.args.bytes.now c.requires (record { machine = at.machine; held = at.held.items; replies = at.replies.items }) c.args.self.now c.self.view_is c.append_up_to.new.held.items c.in_ok-append_up_to.ensures written
