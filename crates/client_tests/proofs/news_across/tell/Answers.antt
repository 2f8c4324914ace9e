-- Threads may share the board of the one-thread object and get its seats and news.
use denote.Param.Send.{param_send, param_sync}
use Rattle.board.proofs.Crossing.{board_sync, seat_send}
use Rattle.client_tests.proofs.Crossing.{news_send}
use Rattle.client_tests.proofs.news_across.tell.Goals as goal

pub tell_across-first-requires-sync-M : goal.tell_across-first-requires-sync-M
tell_across-first-requires-sync-M g c κs within =
    let y = param_sync 0 _ (board_sync g.row.B g.B.Tag g.B.Ledger g.B.Tag-dict g.B.Tag-dict) in
    record { shared = y.shared }

pub tell_across-first-requires-send-M-Seat : goal.tell_across-first-requires-send-M-Seat
tell_across-first-requires-send-M-Seat g c κs within =
    let s = param_send 2 _ (seat_send g.row.B g.B.Tag g.B.Ledger g.B.Tag-dict g.B.Tag-dict) in
    record { owned = s.owned; leaving = s.leaving }

pub tell_across-first-requires-send-M-News : goal.tell_across-first-requires-send-M-News
tell_across-first-requires-send-M-News g c κs within =
    let s = param_send 3 _ (news_send g.row.B g.B.Tag g.B.Ledger) in
    record { owned = s.owned; leaving = s.leaving }
