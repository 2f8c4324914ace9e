use Rattle.client_tests.proofs.overlap.clients_overlap.Given as goal

abbrev pub ghosts-overlap-B-Tag : goal.ghosts-overlap-B-Tag
ghosts-overlap-B-Tag g a = record { word = a.blank.word }

abbrev pub ghosts-overlap-B-Ledger : goal.ghosts-overlap-B-Ledger
ghosts-overlap-B-Ledger g a = record { name = a.blank.ledger.name; parts = a.blank.ledger.parts }
