use Rattle.board.proofs.CoreTruth.{truth, asked}
use Rattle.board.proofs.core_board.board+Board+Core+B.call_with_gate.Goals as goal

pub returns-clause-from_scratch : goal.returns-clause-from_scratch
returns-clause-from_scratch g c =
    truth c.carry_out.result (λ a. a.reply) (λ a. a.entry_number) (λ a. a.news) c.args.seat.now c.carry_out.new.seat c.args.command
    c.carry_out.ensures.answered

pub returns-clause-asked : goal.returns-clause-asked
returns-clause-asked g c = λ is. asked c.carry_out.result c.args.seat.now c.carry_out.new.seat c.args.command is c.carry_out.ensures.refused
