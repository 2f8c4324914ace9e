use Rattle.board.proofs.Answering.{call_seen}
use Rattle.board.proofs.board.Board.carry_out.Goals as goal

pub returns-clause-seen : goal.returns-clause-seen
returns-clause-seen g c =
    let call = c.call-answer in
    call_seen g.X.OneThread.replies g.X.OneThread.may_want (λ a. a.reply) (λ a. a.entry_number) (λ a. a.news) call.result
    c.deref_mut.result.now call.new.self c.args.seat.now call.new.seat c.args.command call.ensures.answered call.ensures.refused
