-- The news of a board of the one-thread object can be sent to other threads, whatever its tag.
use denote.RattleType.{RattleType}
use denote.Param.Send.{IsSend}
use Rattle.std.specs.declared.sync.ledger.Ledger as ledger
use Rattle.linspec.specs.contracts.verdict.Verdict as verdict
use Rattle.linspec.proofs.verdict.Verdict.TheSendSync as verdicts
use Rattle.machine.specs.contracts.command.Command as command
use Rattle.harness.specs.contracts.core_object.Core as core
use Rattle.board.specs.declared.tag.Tag as tag
use Rattle.board.specs.contracts.seat.News as news
use Rattle.board.specs.contracts.core_machine.CoreOneThread.TheImpl as one
use Rattle.board.specs.contracts.core_machine.CoreState as state
use Rattle.board.proofs.Crossing.{answer}
use Rattle.board.proofs.seat.News.TheSendSync as newses

module _ (B : RattleType) (w : tag.Ghosts B.Denot) (l : ledger.Ghosts B.Denot) where
  pub news_send : IsSend (news.the_row core.the_row B state.the_row command.the_row answer verdict.the_row one.ghosts w l)
  news_send = newses.the_send core.the_row B state.the_row command.the_row answer verdict.the_row one.ghosts w l verdicts.the_send
