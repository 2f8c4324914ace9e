use Rattle.std.proofs.Common.{◌≡◌, ap, sym, subst}
use Rattle.std.proofs.lemmas.Result.{on_ok_weaker, on_err_weaker}
use Rattle.std.specs.Io.KnownBytes.{append_known}
use Rattle.line_loop.specs.BetweenReads.{between, Ends}
use Rattle.line_loop.proofs.Results.{on_err}
use Rattle.line_loop.proofs.Running.{ends_written, ends_kept, ends_short, ends_cut_short, ends_either}
use Rattle.line_loop.proofs.session.Session.finish.Goals as goal

pub returns-clause-ok : goal.returns-clause-ok
returns-clause-ok g c =
    let m = g.M.LineMachine in
    let before = g.W.Write.contents c.args.writer.now in
    let after = g.W.Write.contents c.write_replies.new.writer in
    let here = between m.state c.args.self.now before in
    let last = c.answer_last-answered.new.self in
    let new = m.state last.machine in
    let same : new ≡ m.state c.write_replies.new.self.machine = ap (λ r. m.state r.machine) (sym c.in_ok-write_replies.ensures.new) in
    on_ok_weaker c.answer_last-answered.result
    (λ ends. subst (λ s. Ends m.may_reply here s after) same (ends_written m.may_reply here new before after last.replies c.in_ok-write_replies.ensures.ok (ends before)))
    c.answer_last-answered.ensures.ok

pub returns-clause-err : goal.returns-clause-err
returns-clause-err g c =
    let m = g.M.LineMachine in
    let before = g.W.Write.contents c.args.writer.now in
    let after = g.W.Write.contents c.write_replies.new.writer in
    let here = between m.state c.args.self.now before in
    let replies = c.answer_last-answered.new.self.replies in
    on_err_weaker c.answer_last-answered.result
    (λ kept. ends_short m.may_reply here before after replies c.in_ok-write_replies.ensures.ok (ends_kept m.may_reply m.state c.args.self.now replies before kept))
    c.answer_last-answered.ensures.kept

pub returns-in_err-write_replies-clause-err : goal.returns-in_err-write_replies-clause-err
returns-in_err-write_replies-clause-err g c =
    let m = g.M.LineMachine in
    let before = g.W.Write.contents c.args.writer.now in
    let after = g.W.Write.contents c.write_replies.new.writer in
    let here = between m.state c.args.self.now before in
    let last = c.answer_last-answered in
    let replies = last.new.self.replies in
    let stopped = ends_either m.may_reply last.result here (m.state last.new.self.machine) (append_known before replies)
    (on_ok_weaker last.result (λ ends. ends before) last.ensures.ok)
    (on_err_weaker last.result (λ kept. ends_kept m.may_reply m.state c.args.self.now replies before kept) last.ensures.kept) in
    on_err _ (ends_cut_short m.may_reply here before after replies (ap (append_known before) c.requires) c.in_err-write_replies.ensures.some stopped)
