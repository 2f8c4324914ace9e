-- Threads may share the board of the one-thread object, and get its seats, whatever its tag.
use denote.RattleType.{RattleType}
use mir.Syntax.{Dict}
use denote.Param.Send.{IsSend, IsSync}
use Rattle.std.specs.contracts.result.Result as result
use Rattle.std.specs.declared.sync.ledger.Ledger as ledger
use Rattle.edn.specs.contracts.refusal.Refusal as refusal
use Rattle.linspec.specs.contracts.verdict.Verdict as verdict
use Rattle.linspec.proofs.verdict.Verdict.TheSendSync as verdicts
use Rattle.machine.specs.contracts.command.Command as command
use Rattle.machine.specs.contracts.command.Reply as reply
use Rattle.harness.specs.contracts.core_object.Core as core
use Rattle.harness.proofs.Crossing.{core_send}
use Rattle.board.specs.declared.tag.Tag as tag
use Rattle.board.specs.contracts.board.Board as board
use Rattle.board.specs.contracts.seat.Seat as seat
use Rattle.board.specs.contracts.published.PublishedCopy as copy
use Rattle.board.specs.contracts.published.PublishedCopyHoldsPublished.TheImpl as holds
use Rattle.board.specs.contracts.published.PublishedCopyAbsorbUnit.TheImpl as absorbs
use Rattle.board.specs.contracts.published.Published as published
use Rattle.board.specs.contracts.core_machine.CoreOneThread.TheImpl as one
use Rattle.board.specs.contracts.core_machine.CoreState as state
use Rattle.board.proofs.board.Board.TheSendSync as boards
use Rattle.board.proofs.seat.Seat.TheSendSync as seats
use Rattle.board.proofs.published.PublishedCopy.TheSendSync as copies
use Rattle.board.proofs.published.Published.TheSendSync as pages

abbrev pub answer : RattleType
answer = result.the_row reply.the_row refusal.the_row

module _ (B : RattleType) (w : tag.Ghosts B.Denot) (l : ledger.Ghosts B.Denot) where
  -- the type that the board publishes
  abbrev pub page : RattleType
  page = published.the_row core.the_row B state.the_row command.the_row answer verdict.the_row one.ghosts w l

  page_send : IsSend page
  page_send = pages.the_send core.the_row B state.the_row command.the_row answer verdict.the_row one.ghosts w l verdicts.the_send

  page_sync : IsSync page
  page_sync = pages.the_sync core.the_row B state.the_row command.the_row answer verdict.the_row one.ghosts w l verdicts.the_sync

  module _ (d e : Dict) where
    pub board_sync : IsSync (board.the_row core.the_row B (copy.the_row page) state.the_row command.the_row answer verdict.the_row one.ghosts w l (holds.ghosts page d) (absorbs.ghosts page e))
    board_sync = boards.the_sync core.the_row B (copy.the_row page) state.the_row command.the_row answer verdict.the_row one.ghosts w l (holds.ghosts page d) (absorbs.ghosts page e) core_send (copies.the_send page page_send) (copies.the_sync page page_sync)

    pub seat_send : IsSend (seat.the_row core.the_row B (copy.the_row page) state.the_row command.the_row answer verdict.the_row one.ghosts w l (holds.ghosts page d) (absorbs.ghosts page e))
    seat_send = seats.the_send core.the_row B (copy.the_row page) state.the_row command.the_row answer verdict.the_row one.ghosts w l (holds.ghosts page d) (absorbs.ghosts page e) verdicts.the_send (copies.the_sync page page_sync)
