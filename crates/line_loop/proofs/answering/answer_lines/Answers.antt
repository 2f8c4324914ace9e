use Rattle.std.proofs.Common.{◌≡◌, ◌≢◌, [], ◌++◌, true, sym, ap, ◌∙◌, subst, take, Ok, inl, inr, ⊎_elim}
use Rattle.std.proofs.KnownBytes.{Consumes-nil, Consumes-trans}
use Rattle.std.specs.Io.KnownBytes.{Consumes}
use Rattle.std.proofs.lemmas.Result.{err_from_is_err_and}
use Rattle.edn.specs.declared.refusal.Refusal.TheVariants.{ReadFailed}
use Rattle.line_loop.specs.BetweenReads.{between, Stands}
use Rattle.line_loop.specs.Stopping.{IsPartlyAnswered, Finishes, Stops}
use Rattle.line_loop.proofs.Refusing.{given_on, is_no_refusal, no_value, read_kind, read_of_it, never_wrote, write_kind, never_read, wrote_of_it, wrote_well}
use Rattle.line_loop.proofs.LiveReads.{lives_first, lives_more}
use Rattle.line_loop.proofs.Results.{if_err, if_err_at}
use Rattle.line_loop.proofs.Running.{stands_first, stands_flushed, stopped_reading, halts_within, halts_ending, consumed_nothing, keeps_up, stopped_flushed}
use Rattle.line_loop.proofs.answering.answer_lines.Goals as goal

pub loop-init : goal.loop-init
loop-init g c =
    let m = g.M.LineMachine in
    let w = g.W.Write in
    let session = c.new-session.result in
    let before = w.contents c.args.writer.now in
    let after = w.contents c.flush_all.new.writer in
    let state : m.state session.machine ≡ m.state c.args.machine = ap m.state c.new-session.ensures.machine in
    let first : Stands m.may_reply (m.state session.machine) before [] (between m.state session after) = stands_flushed m.may_reply m.state (m.state session.machine) before [] session before after c.flush_all.ensures.bytes
    (stands_first m.may_reply m.state session before c.new-session.ensures.held c.new-session.ensures.replies) in
    record {
      live = lives_first m.may_reply m.is_closed (m.state c.args.machine) before (g.R.Read.remaining c.args.reader.now) (g.R.ReadsWithWriter.log c.args.reader.now);
      stands = subst (λ s. Stands m.may_reply s before [] (between m.state session after)) state first;
      none = c.new-session.ensures.replies;
      reads = c.requires.reads;
      writes = c.in_ok-flush_all.ensures.unfailed;
      flushed = c.in_ok-flush_all.ensures.flushed;
      next = tt;
      finite = tt;
    }

pub returns-in_err-flush_all-clause-stopped : goal.returns-in_err-flush_all-clause-stopped
returns-in_err-flush_all-clause-stopped g c =
    let m = g.M.LineMachine in
    let w = g.W.Write in
    let session = c.new-session.result in
    let before = w.contents c.args.writer.now in
    let state : m.state session.machine ≡ m.state c.args.machine = ap m.state c.new-session.ensures.machine in
    let first : Stands m.may_reply (m.state session.machine) before [] (between m.state session before) = stands_first m.may_reply m.state session before c.new-session.ensures.held c.new-session.ensures.replies in
    let stands : Stands m.may_reply (m.state c.args.machine) before [] (between m.state session before) = subst (λ s. Stands m.may_reply s before [] (between m.state session before)) state first in
    let stopped = stopped_reading m.may_reply m.state (m.state c.args.machine) before [] session before c.new-session.ensures.replies stands in
    if_err _ (halts_within m.may_reply (m.state c.args.machine) _ _ _ _ [] (Consumes-nil (g.R.Read.remaining c.args.reader.now))
    (stopped_flushed m.may_reply (m.state c.args.machine) before [] before (w.contents c.flush_all.new.writer) c.flush_all.ensures.bytes stopped))

pub take_piece-requires : goal.take_piece-requires
take_piece-requires g c = c.loop.invariant.none

pub finish-requires : goal.finish-requires
finish-requires g c = c.loop.invariant.none

pub read_with_writer-requires-clause-unfailed : goal.read_with_writer-requires-clause-unfailed
read_with_writer-requires-clause-unfailed g c = c.loop.invariant.reads

pub slice_bounds-piece-end : goal.slice_bounds-piece-end
slice_bounds-piece-end g c = c.in_ok-n.ensures.bound c.in-Piece.n (ap Ok c.in-Piece.is)

pub loop-preserved : goal.loop-preserved
loop-preserved g c =
    let so = c.loop.invariant in
    let m = g.M.LineMachine in
    let w = g.W.Write in
    let more = take c.in-Piece.n c.read_with_writer.new.piece in
    let is = ap Ok c.in-Piece.is in
    record {
      live = lives_more m.may_reply m.is_closed m.state _ _ _ _ _ _ _ _ c.loop.session _ _ more so.live so.stands so.none so.flushed (sym c.closed.ensures ∙ c.if-closed.false)
          (c.in_ok-n.ensures.piece c.in-Piece.n is) (c.in_ok-n.ensures.kept c.in-Piece.n is);
      stands = c.in_ok-take_piece-in-Piece.ensures.ok (m.state c.args.machine) (w.contents c.args.writer.now) so.live.seen so.stands;
      none = c.in_ok-take_piece-in-Piece.ensures.all;
      reads = c.in_ok-n.ensures.unfailed;
      writes = c.in_ok-take_piece-in-Piece.ensures.unfailed;
      flushed = c.in_ok-take_piece-in-Piece.ensures.flushed;
      next = tt;
      finite = tt;
    }

pub returns-then-closed-clause-live : goal.returns-then-closed-clause-live
returns-then-closed-clause-live g c = c.loop.invariant.live

pub returns-then-closed-clause-flushed : goal.returns-then-closed-clause-flushed
returns-then-closed-clause-flushed g c = c.loop.invariant.flushed

pub returns-then-closed-clause-reads_well : goal.returns-then-closed-clause-reads_well
returns-then-closed-clause-reads_well g c = λ _. c.loop.invariant.reads

pub returns-then-closed-clause-writes_well : goal.returns-then-closed-clause-writes_well
returns-then-closed-clause-writes_well g c = λ _. c.loop.invariant.writes

pub returns-then-closed-clause-done : goal.returns-then-closed-clause-done
returns-then-closed-clause-done g c =
    let so = c.loop.invariant in
    let m = g.M.LineMachine in
    let w = g.W.Write in
    let session = c.loop.session in
    let up = keeps_up m.may_reply m.state (m.state c.args.machine) _ _ (w.contents c.args.writer.now) so.live.seen session (w.contents c.loop.writer) so.none so.live.read so.stands in
    (m.state session.machine, c.verdict.ensures, inr (sym c.closed.ensures ∙ c.if-closed.true, up))

pub returns-in_err-n-clause-live : goal.returns-in_err-n-clause-live
returns-in_err-n-clause-live g c =
    let so = c.loop.invariant in
    let m = g.M.LineMachine in
    lives_more m.may_reply m.is_closed m.state _ _ _ _ _ _ _ _ c.loop.session _ _ [] so.live so.stands so.none so.flushed (sym c.closed.ensures ∙ c.if-closed.false) c.in_err-n.ensures.err.0 c.in_err-n.ensures.err.1

pub returns-in_err-n-clause-writes_well : goal.returns-in_err-n-clause-writes_well
returns-in_err-n-clause-writes_well g c = λ _. c.loop.invariant.writes

pub returns-in_err-n-clause-stopped : goal.returns-in_err-n-clause-stopped
returns-in_err-n-clause-stopped g c =
    let so = c.loop.invariant in
    let m = g.M.LineMachine in
    let w = g.W.Write in
    let all : Consumes (g.R.Read.remaining c.args.reader.now) (g.R.Read.remaining c.read_with_writer.new.reader) so.live.seen = consumed_nothing _ _ _ so.live.seen so.live.read c.in_err-n.ensures.err.0 in
    if_err _ (halts_within m.may_reply (m.state c.args.machine) _ _ _ _ so.live.seen all
    (stopped_reading m.may_reply m.state (m.state c.args.machine) (w.contents c.args.writer.now) so.live.seen c.loop.session (w.contents c.loop.writer) so.none so.stands))

pub returns-in_err-n-clause-kept_up : goal.returns-in_err-n-clause-kept_up
returns-in_err-n-clause-kept_up g c =
    let so = c.loop.invariant in
    let m = g.M.LineMachine in
    let w = g.W.Write in
    let all : Consumes (g.R.Read.remaining c.args.reader.now) (g.R.Read.remaining c.read_with_writer.new.reader) so.live.seen = consumed_nothing _ _ _ so.live.seen so.live.read c.in_err-n.ensures.err.0 in
    λ _. (m.state c.loop.session.machine, keeps_up m.may_reply m.state (m.state c.args.machine) _ _ (w.contents c.args.writer.now) so.live.seen c.loop.session (w.contents c.loop.writer) so.none all so.stands)

pub returns-in_err-take_piece-in-Piece-clause-live :
    goal.returns-in_err-take_piece-in-Piece-clause-live
returns-in_err-take_piece-in-Piece-clause-live g c =
    let so = c.loop.invariant in
    let m = g.M.LineMachine in
    let is = ap Ok c.in-Piece.is in
    lives_more m.may_reply m.is_closed m.state _ _ _ _ _ _ _ _ c.loop.session _ _ (take c.in-Piece.n c.read_with_writer.new.piece) so.live so.stands so.none so.flushed (sym c.closed.ensures ∙ c.if-closed.false)
    (c.in_ok-n.ensures.piece c.in-Piece.n is) (c.in_ok-n.ensures.kept c.in-Piece.n is)

pub returns-in_err-take_piece-in-Piece-clause-stopped :
    goal.returns-in_err-take_piece-in-Piece-clause-stopped
returns-in_err-take_piece-in-Piece-clause-stopped g c =
    let so = c.loop.invariant in
    let m = g.M.LineMachine in
    let w = g.W.Write in
    let more = take c.in-Piece.n c.read_with_writer.new.piece in
    let took = c.in_ok-n.ensures.piece c.in-Piece.n (ap Ok c.in-Piece.is) in
    let all : Consumes (g.R.Read.remaining c.args.reader.now) (g.R.Read.remaining c.read_with_writer.new.reader) (so.live.seen ++ more) = Consumes-trans _ _ _ so.live.seen more so.live.read took in
    if_err _ (halts_within m.may_reply (m.state c.args.machine) _ _ _ _ (so.live.seen ++ more) all (c.in_err-take_piece-in-Piece.ensures.err (m.state c.args.machine) (w.contents c.args.writer.now) so.live.seen so.stands))

pub returns-in_err-finish-in-End-clause-live : goal.returns-in_err-finish-in-End-clause-live
returns-in_err-finish-in-End-clause-live g c =
    let so = c.loop.invariant in
    let m = g.M.LineMachine in
    let end = c.in_ok-n.ensures.end (ap Ok c.in-End.is) in
    lives_more m.may_reply m.is_closed m.state _ _ _ _ _ _ _ _ c.loop.session _ _ [] so.live so.stands so.none so.flushed (sym c.closed.ensures ∙ c.if-closed.false) end.1 end.2

pub returns-in_err-finish-in-End-clause-stopped : goal.returns-in_err-finish-in-End-clause-stopped
returns-in_err-finish-in-End-clause-stopped g c =
    let so = c.loop.invariant in
    let m = g.M.LineMachine in
    let w = g.W.Write in
    let seen = so.live.seen in
    let (end, took, _) = c.in_ok-n.ensures.end (ap Ok c.in-End.is) in
    let all : Consumes (g.R.Read.remaining c.args.reader.now) (g.R.Read.remaining c.read_with_writer.new.reader) seen = consumed_nothing _ _ _ seen so.live.read took in
    let why = c.in_err-finish-in-End.ensures.cause in
    let r = c.from_residual-in_err-finish-in-End.result in
    let (e, same, from) = err_from_is_err_and r c.from_residual-in_err-finish-in-End.ensures.1 in
    let stopped : IsPartlyAnswered m.may_reply (m.state c.args.machine) (w.contents c.args.writer.now) seen true (w.contents c.finish.new.writer) = c.in_err-finish-in-End.ensures.err (m.state c.args.machine) (w.contents c.args.writer.now) seen so.stands in
    let other : e ≢ ReadFailed = λ t. ⊎_elim (λ memory. absurd (cc (memory.0, sym from ∙ t))) (λ wrote. absurd (cc (wrote.0, sym from ∙ t))) why in
    if_err_at (Stops m.may_reply (m.state c.args.machine) (g.R.Read.remaining c.args.reader.now) (g.R.Read.remaining c.read_with_writer.new.reader) (w.contents c.args.writer.now) (w.contents c.finish.new.writer)) r e same
    (halts_ending m.may_reply (m.state c.args.machine) _ _ _ _ seen all end stopped e other)

pub returns-in-End-clause-live : goal.returns-in-End-clause-live
returns-in-End-clause-live g c =
    let so = c.loop.invariant in
    let m = g.M.LineMachine in
    let end = c.in_ok-n.ensures.end (ap Ok c.in-End.is) in
    lives_more m.may_reply m.is_closed m.state _ _ _ _ _ _ _ _ c.loop.session _ _ [] so.live so.stands so.none so.flushed (sym c.closed.ensures ∙ c.if-closed.false) end.1 end.2

pub returns-in-End-clause-done : goal.returns-in-End-clause-done
returns-in-End-clause-done g c =
    let so = c.loop.invariant in
    let m = g.M.LineMachine in
    let w = g.W.Write in
    let seen = so.live.seen in
    let (end, took, _) = c.in_ok-n.ensures.end (ap Ok c.in-End.is) in
    let all : Consumes (g.R.Read.remaining c.args.reader.now) (g.R.Read.remaining c.read_with_writer.new.reader) seen = consumed_nothing _ _ _ seen so.live.read took in
    let finishes : Finishes m.may_reply (m.state c.args.machine) (m.state c.finish.new.self.machine) (g.R.Read.remaining c.args.reader.now) (g.R.Read.remaining c.read_with_writer.new.reader) (w.contents c.args.writer.now) (w.contents c.finish.new.writer) = record {
      input = seen;
      read = all;
      at_end = end;
      answered = c.in_ok-finish-in-End.ensures.ok (m.state c.args.machine) (w.contents c.args.writer.now) seen so.stands;
    } in
    (m.state c.finish.new.self.machine, c.verdict-in-End.ensures, inl (finishes, c.in_ok-n.ensures.unfailed))

pub returns-in_err-flush_all-clause-done : goal.returns-in_err-flush_all-clause-done
returns-in_err-flush_all-clause-done g c = no_value _ _ (given_on _ _ c.from_residual.ensures.1) _

pub returns-in_err-flush_all-clause-flushed : goal.returns-in_err-flush_all-clause-flushed
returns-in_err-flush_all-clause-flushed g c = no_value _ _ (given_on _ _ c.from_residual.ensures.1) _

pub returns-in_err-flush_all-clause-kinds : goal.returns-in_err-flush_all-clause-kinds
returns-in_err-flush_all-clause-kinds g c = write_kind _ _ (given_on _ _ c.from_residual.ensures.1) _ (inr c.in_err-flush_all.ensures.cause)

pub returns-in_err-flush_all-clause-kept_up : goal.returns-in_err-flush_all-clause-kept_up
returns-in_err-flush_all-clause-kept_up g c = never_read _ _ (given_on _ _ c.from_residual.ensures.1) _ (inr c.in_err-flush_all.ensures.cause)

pub returns-in_err-flush_all-clause-read : goal.returns-in_err-flush_all-clause-read
returns-in_err-flush_all-clause-read g c = never_read _ _ (given_on _ _ c.from_residual.ensures.1) _ (inr c.in_err-flush_all.ensures.cause)

pub returns-in_err-flush_all-clause-wrote : goal.returns-in_err-flush_all-clause-wrote
returns-in_err-flush_all-clause-wrote g c = wrote_of_it _ _ (given_on _ _ c.from_residual.ensures.1) _ (inr c.in_err-flush_all.ensures.cause)

pub returns-in_err-flush_all-clause-writes_well : goal.returns-in_err-flush_all-clause-writes_well
returns-in_err-flush_all-clause-writes_well g c = wrote_well _ _ (given_on _ _ c.from_residual.ensures.1) _ (inr c.in_err-flush_all.ensures.cause)

pub returns-in_err-flush_all-clause-reads_well : goal.returns-in_err-flush_all-clause-reads_well
returns-in_err-flush_all-clause-reads_well g c = λ _. c.requires.reads

pub returns-in_err-flush_all-clause-live : goal.returns-in_err-flush_all-clause-live
returns-in_err-flush_all-clause-live g c = lives_first g.M.LineMachine.may_reply g.M.LineMachine.is_closed (g.M.LineMachine.state c.args.machine) (g.W.Write.contents c.args.writer.now) (g.R.Read.remaining c.args.reader.now) (g.R.ReadsWithWriter.log c.args.reader.now)

pub returns-in_err-n-clause-done : goal.returns-in_err-n-clause-done
returns-in_err-n-clause-done g c = no_value _ _ (given_on _ _ c.from_residual-in_err-n.ensures.1) _

pub returns-in_err-n-clause-flushed : goal.returns-in_err-n-clause-flushed
returns-in_err-n-clause-flushed g c = no_value _ _ (given_on _ _ c.from_residual-in_err-n.ensures.1) _

pub returns-in_err-n-clause-kinds : goal.returns-in_err-n-clause-kinds
returns-in_err-n-clause-kinds g c = read_kind _ _ (given_on _ _ c.from_residual-in_err-n.ensures.1) c.in_err-n.ensures.cause.0

pub returns-in_err-n-clause-read : goal.returns-in_err-n-clause-read
returns-in_err-n-clause-read g c = λ _. c.in_err-n.ensures.cause.1

pub returns-in_err-n-clause-reads_well : goal.returns-in_err-n-clause-reads_well
returns-in_err-n-clause-reads_well g c = read_of_it _ _ (given_on _ _ c.from_residual-in_err-n.ensures.1) c.in_err-n.ensures.cause.0

pub returns-in_err-n-clause-wrote : goal.returns-in_err-n-clause-wrote
returns-in_err-n-clause-wrote g c = never_wrote _ _ (given_on _ _ c.from_residual-in_err-n.ensures.1) c.in_err-n.ensures.cause.0

pub returns-in_err-take_piece-in-Piece-clause-done : goal.returns-in_err-take_piece-in-Piece-clause-done
returns-in_err-take_piece-in-Piece-clause-done g c = no_value _ _ (given_on _ _ c.from_residual-in_err-take_piece-in-Piece.ensures.1) _

pub returns-in_err-take_piece-in-Piece-clause-flushed : goal.returns-in_err-take_piece-in-Piece-clause-flushed
returns-in_err-take_piece-in-Piece-clause-flushed g c = no_value _ _ (given_on _ _ c.from_residual-in_err-take_piece-in-Piece.ensures.1) _

pub returns-in_err-take_piece-in-Piece-clause-kinds : goal.returns-in_err-take_piece-in-Piece-clause-kinds
returns-in_err-take_piece-in-Piece-clause-kinds g c = write_kind _ _ (given_on _ _ c.from_residual-in_err-take_piece-in-Piece.ensures.1) _ c.in_err-take_piece-in-Piece.ensures.cause

pub returns-in_err-take_piece-in-Piece-clause-kept_up : goal.returns-in_err-take_piece-in-Piece-clause-kept_up
returns-in_err-take_piece-in-Piece-clause-kept_up g c = never_read _ _ (given_on _ _ c.from_residual-in_err-take_piece-in-Piece.ensures.1) _ c.in_err-take_piece-in-Piece.ensures.cause

pub returns-in_err-take_piece-in-Piece-clause-read : goal.returns-in_err-take_piece-in-Piece-clause-read
returns-in_err-take_piece-in-Piece-clause-read g c = never_read _ _ (given_on _ _ c.from_residual-in_err-take_piece-in-Piece.ensures.1) _ c.in_err-take_piece-in-Piece.ensures.cause

pub returns-in_err-take_piece-in-Piece-clause-wrote : goal.returns-in_err-take_piece-in-Piece-clause-wrote
returns-in_err-take_piece-in-Piece-clause-wrote g c = wrote_of_it _ _ (given_on _ _ c.from_residual-in_err-take_piece-in-Piece.ensures.1) _ c.in_err-take_piece-in-Piece.ensures.cause

pub returns-in_err-take_piece-in-Piece-clause-writes_well : goal.returns-in_err-take_piece-in-Piece-clause-writes_well
returns-in_err-take_piece-in-Piece-clause-writes_well g c = wrote_well _ _ (given_on _ _ c.from_residual-in_err-take_piece-in-Piece.ensures.1) _ c.in_err-take_piece-in-Piece.ensures.cause

pub returns-in_err-take_piece-in-Piece-clause-reads_well : goal.returns-in_err-take_piece-in-Piece-clause-reads_well
returns-in_err-take_piece-in-Piece-clause-reads_well g c = λ _. c.in_ok-n.ensures.unfailed

pub returns-in_err-finish-in-End-clause-done : goal.returns-in_err-finish-in-End-clause-done
returns-in_err-finish-in-End-clause-done g c = no_value _ _ (given_on _ _ c.from_residual-in_err-finish-in-End.ensures.1) _

pub returns-in_err-finish-in-End-clause-flushed : goal.returns-in_err-finish-in-End-clause-flushed
returns-in_err-finish-in-End-clause-flushed g c = no_value _ _ (given_on _ _ c.from_residual-in_err-finish-in-End.ensures.1) _

pub returns-in_err-finish-in-End-clause-kinds : goal.returns-in_err-finish-in-End-clause-kinds
returns-in_err-finish-in-End-clause-kinds g c = write_kind _ _ (given_on _ _ c.from_residual-in_err-finish-in-End.ensures.1) _ c.in_err-finish-in-End.ensures.cause

pub returns-in_err-finish-in-End-clause-kept_up : goal.returns-in_err-finish-in-End-clause-kept_up
returns-in_err-finish-in-End-clause-kept_up g c = never_read _ _ (given_on _ _ c.from_residual-in_err-finish-in-End.ensures.1) _ c.in_err-finish-in-End.ensures.cause

pub returns-in_err-finish-in-End-clause-read : goal.returns-in_err-finish-in-End-clause-read
returns-in_err-finish-in-End-clause-read g c = never_read _ _ (given_on _ _ c.from_residual-in_err-finish-in-End.ensures.1) _ c.in_err-finish-in-End.ensures.cause

pub returns-in_err-finish-in-End-clause-wrote : goal.returns-in_err-finish-in-End-clause-wrote
returns-in_err-finish-in-End-clause-wrote g c = wrote_of_it _ _ (given_on _ _ c.from_residual-in_err-finish-in-End.ensures.1) _ c.in_err-finish-in-End.ensures.cause

pub returns-in_err-finish-in-End-clause-writes_well : goal.returns-in_err-finish-in-End-clause-writes_well
returns-in_err-finish-in-End-clause-writes_well g c = wrote_well _ _ (given_on _ _ c.from_residual-in_err-finish-in-End.ensures.1) _ c.in_err-finish-in-End.ensures.cause

pub returns-in_err-finish-in-End-clause-reads_well : goal.returns-in_err-finish-in-End-clause-reads_well
returns-in_err-finish-in-End-clause-reads_well g c = λ _. c.in_ok-n.ensures.unfailed

pub returns-then-closed-clause-stopped : goal.returns-then-closed-clause-stopped
returns-then-closed-clause-stopped g c = tt

pub returns-then-closed-clause-kinds : goal.returns-then-closed-clause-kinds
returns-then-closed-clause-kinds g c = tt

pub returns-then-closed-clause-kept_up : goal.returns-then-closed-clause-kept_up
returns-then-closed-clause-kept_up g c = is_no_refusal c.verdict.result _

pub returns-then-closed-clause-read : goal.returns-then-closed-clause-read
returns-then-closed-clause-read g c = is_no_refusal c.verdict.result _

pub returns-then-closed-clause-wrote : goal.returns-then-closed-clause-wrote
returns-then-closed-clause-wrote g c = is_no_refusal c.verdict.result _

pub returns-in-End-clause-stopped : goal.returns-in-End-clause-stopped
returns-in-End-clause-stopped g c = tt

pub returns-in-End-clause-kinds : goal.returns-in-End-clause-kinds
returns-in-End-clause-kinds g c = tt

pub returns-in-End-clause-kept_up : goal.returns-in-End-clause-kept_up
returns-in-End-clause-kept_up g c = is_no_refusal c.verdict-in-End.result _

pub returns-in-End-clause-read : goal.returns-in-End-clause-read
returns-in-End-clause-read g c = is_no_refusal c.verdict-in-End.result _

pub returns-in-End-clause-wrote : goal.returns-in-End-clause-wrote
returns-in-End-clause-wrote g c = is_no_refusal c.verdict-in-End.result _

pub returns-in-End-clause-flushed : goal.returns-in-End-clause-flushed
returns-in-End-clause-flushed g c = c.in_ok-finish-in-End.ensures.flushed

pub returns-in-End-clause-reads_well : goal.returns-in-End-clause-reads_well
returns-in-End-clause-reads_well g c = λ _. c.in_ok-n.ensures.unfailed

pub returns-in-End-clause-writes_well : goal.returns-in-End-clause-writes_well
returns-in-End-clause-writes_well g c = λ _. c.in_ok-finish-in-End.ensures.unfailed
