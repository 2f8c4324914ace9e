-- Threads may share the board of the one-thread object and get its seats.
use denote.Param.Send.{param_send, param_sync}
use Rattle.board.proofs.Crossing.{board_sync, seat_send}
use Rattle.board_tests.proofs.full_board.call_at_once.Goals as goal

pub call_in_threads-all-requires-sync-M : goal.call_in_threads-all-requires-sync-M
call_in_threads-all-requires-sync-M g c κs within =
    let y = param_sync 0 _ (board_sync g.row.B g.B.Tag g.B.Ledger g.B.Tag-dict g.B.Tag-dict) in
    record { shared = y.shared }

pub call_in_threads-all-requires-send-M-Seat : goal.call_in_threads-all-requires-send-M-Seat
call_in_threads-all-requires-send-M-Seat g c κs within =
    let s = param_send 2 _ (seat_send g.row.B g.B.Tag g.B.Ledger g.B.Tag-dict g.B.Tag-dict) in
    record { owned = s.owned; leaving = s.leaving }
