use Rattle.client_tests.proofs.striking.due_faults_strike.Given as goal

abbrev pub ghosts-strike-B-Tag : goal.ghosts-strike-B-Tag
ghosts-strike-B-Tag g a = record { word = a.blank.word }

abbrev pub ghosts-strike-B-Ledger : goal.ghosts-strike-B-Ledger
ghosts-strike-B-Ledger g a = record { name = a.blank.ledger.name; parts = a.blank.ledger.parts }
