use Rattle.board_tests.proofs.during_call.hold_call.Given as goal

abbrev pub ghosts-hold_by-B-Tag : goal.ghosts-hold_by-B-Tag
ghosts-hold_by-B-Tag g a = record { word = a.blank.word }

abbrev pub ghosts-hold_by-B-Ledger : goal.ghosts-hold_by-B-Ledger
ghosts-hold_by-B-Ledger g a = record { name = a.blank.ledger.name; parts = a.blank.ledger.parts }
