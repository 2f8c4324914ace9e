-- Threads may share the board of the one-thread object and get its seats.
use denote.Param.Send.{param_send, param_sync}
use Rattle.board.proofs.Crossing.{board_sync, seat_send}
use Rattle.client_tests.proofs.cut.run_and_cut.Goals as goal

pub run_three-first-requires-sync-M : goal.run_three-first-requires-sync-M
run_three-first-requires-sync-M g c κs within =
    let y = param_sync 0 _ (board_sync g.row.B g.B.Tag g.B.Ledger g.B.Tag-dict g.B.Tag-dict) in
    record { shared = y.shared }

pub run_three-first-requires-send-M-Seat : goal.run_three-first-requires-send-M-Seat
run_three-first-requires-send-M-Seat g c κs within =
    let s = param_send 2 _ (seat_send g.row.B g.B.Tag g.B.Ledger g.B.Tag-dict g.B.Tag-dict) in
    record { owned = s.owned; leaving = s.leaving }
