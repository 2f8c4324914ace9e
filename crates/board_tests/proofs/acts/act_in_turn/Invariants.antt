use Rattle.board_tests.proofs.acts.act_in_turn.Given as goal

abbrev pub ghosts-act_by-B-Tag : goal.ghosts-act_by-B-Tag
ghosts-act_by-B-Tag g a = record { word = a.blank.word }

abbrev pub ghosts-act_by-B-Ledger : goal.ghosts-act_by-B-Ledger
ghosts-act_by-B-Ledger g a = record { name = a.blank.ledger.name; parts = a.blank.ledger.parts }
