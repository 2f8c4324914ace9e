-- The bytes so far are answered, except for the held line. All replies are written and flushed, none was held back over a read, and nothing
-- has failed.
use Rattle.std.proofs.Common.{◌≡◌, [], true, false}
use Rattle.line_loop.specs.Live.{IsLive}
use Rattle.line_loop.specs.BetweenReads.{between, Stands}
use Rattle.line_loop.proofs.answering.answer_lines.Given as goal

abbrev pub invariant-loop : goal.invariant-loop
invariant-loop g l =
    let m = g.M.LineMachine in
    let r = g.R in
    let w = g.W in
    record {
      live : IsLive m.may_reply m.is_closed (m.state l.fn.machine) (w.Write.contents l.fn.writer) (r.Read.remaining l.fn.reader) (r.Read.remaining l.reader) (r.ReadsWithWriter.log l.fn.reader) (r.ReadsWithWriter.log l.reader);
      stands : Stands m.may_reply (m.state l.fn.machine) (w.Write.contents l.fn.writer) live.seen (between m.state l.session (w.Write.contents l.writer));
      none : l.session.replies ≡ [];
      reads : r.Failed.has_failed l.reader ≡ false;
      writes : w.Failed.has_failed l.writer ≡ false;
      flushed : w.Flushes.is_flushed l.writer ≡ true;
      next : (goal.iterator-loop g).can_next l.iterator';
      finite : (goal.iterator-loop g).is_finite l.iterator';
    }
