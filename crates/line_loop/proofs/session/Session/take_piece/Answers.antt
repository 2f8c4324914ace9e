use Rattle.std.proofs.Common.{ap}
use Rattle.std.proofs.lemmas.Result.{on_ok_weaker, on_err_weaker}
use Rattle.std.specs.Io.KnownBytes.{append_known}
use Rattle.line_loop.specs.BetweenReads.{between}
use Rattle.line_loop.proofs.Results.{on_ok, on_err}
use Rattle.line_loop.proofs.Running.{goes_written, stops_written, stops_short, stops_either}
use Rattle.line_loop.proofs.session.Session.take_piece.Goals as goal

pub returns-clause-ok : goal.returns-clause-ok
returns-clause-ok g c =
    let m = g.M.LineMachine in
    let before = g.W.Write.contents c.args.writer.now in
    let after = g.W.Write.contents c.write_replies.new.writer in
    let here = between m.state c.args.self.now before in
    on_ok_weaker c.answer_piece-answered.result
    (λ went. goes_written m.may_reply m.state c.args.piece.now here c.answer_piece-answered.new.self c.write_replies.new.self before after c.in_ok-write_replies.ensures.new c.in_ok-write_replies.ensures.ok (went before))
    c.answer_piece-answered.ensures.ok

pub returns-clause-all : goal.returns-clause-all
returns-clause-all g c = on_ok c.answer_piece-answered.result (ap (λ r. r.replies) c.in_ok-write_replies.ensures.new)

pub returns-clause-err : goal.returns-clause-err
returns-clause-err g c =
    let m = g.M.LineMachine in
    let before = g.W.Write.contents c.args.writer.now in
    let after = g.W.Write.contents c.write_replies.new.writer in
    let here = between m.state c.args.self.now before in
    on_err_weaker c.answer_piece-answered.result
    (λ stopped. stops_written m.may_reply c.args.piece.now here before after c.answer_piece-answered.new.self.replies c.in_ok-write_replies.ensures.ok (stopped before))
    c.answer_piece-answered.ensures.err

pub returns-in_err-write_replies-clause-err : goal.returns-in_err-write_replies-clause-err
returns-in_err-write_replies-clause-err g c =
    let m = g.M.LineMachine in
    let before = g.W.Write.contents c.args.writer.now in
    let after = g.W.Write.contents c.write_replies.new.writer in
    let here = between m.state c.args.self.now before in
    let there = between m.state c.answer_piece-answered.new.self before in
    let answered = c.answer_piece-answered.result in
    let stopped = stops_either m.may_reply answered c.args.piece.now here there
    (on_ok_weaker answered (λ went. went before) c.answer_piece-answered.ensures.ok)
    (on_err_weaker answered (λ stops. stops before) c.answer_piece-answered.ensures.err) in
    on_err _ (stops_short m.may_reply c.args.piece.now here before after c.answer_piece-answered.new.self.replies (ap (append_known before) c.requires) c.in_err-write_replies.ensures.some stopped)
