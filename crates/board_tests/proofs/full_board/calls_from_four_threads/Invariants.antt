use Rattle.board_tests.proofs.full_board.calls_from_four_threads.Given as goal

abbrev pub ghosts-call_at_once-B-Tag : goal.ghosts-call_at_once-B-Tag
ghosts-call_at_once-B-Tag g a = record { word = a.blank.word }

abbrev pub ghosts-call_at_once-B-Ledger : goal.ghosts-call_at_once-B-Ledger
ghosts-call_at_once-B-Ledger g a = record { name = a.blank.ledger.name; parts = a.blank.ledger.parts }
