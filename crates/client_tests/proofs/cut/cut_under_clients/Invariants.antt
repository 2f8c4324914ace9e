use Rattle.client_tests.proofs.cut.cut_under_clients.Given as goal

abbrev pub ghosts-run_and_cut-B-Tag : goal.ghosts-run_and_cut-B-Tag
ghosts-run_and_cut-B-Tag g a = record { word = a.blank.word }

abbrev pub ghosts-run_and_cut-B-Ledger : goal.ghosts-run_and_cut-B-Ledger
ghosts-run_and_cut-B-Ledger g a = record { name = a.blank.ledger.name; parts = a.blank.ledger.parts }
