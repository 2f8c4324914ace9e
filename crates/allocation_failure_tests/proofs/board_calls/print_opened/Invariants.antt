use Rattle.allocation_failure_tests.proofs.board_calls.print_opened.Given as goal

abbrev pub ghosts-print_on-B-Tag : goal.ghosts-print_on-B-Tag
ghosts-print_on-B-Tag g a = record { word = a.blank.word }

abbrev pub ghosts-print_on-B-Ledger : goal.ghosts-print_on-B-Ledger
ghosts-print_on-B-Ledger g a = record { name = a.blank.ledger.name; parts = a.blank.ledger.parts }
