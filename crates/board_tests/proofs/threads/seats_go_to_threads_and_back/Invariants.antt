use Rattle.board_tests.proofs.threads.seats_go_to_threads_and_back.Given as goal

abbrev pub ghosts-send_and_end-B-Tag : goal.ghosts-send_and_end-B-Tag
ghosts-send_and_end-B-Tag g a = record { word = a.blank.word }

abbrev pub ghosts-send_and_end-B-Ledger : goal.ghosts-send_and_end-B-Ledger
ghosts-send_and_end-B-Ledger g a = record { name = a.blank.ledger.name; parts = a.blank.ledger.parts }
