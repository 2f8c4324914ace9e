use Rattle.bench.proofs.setups.calls_on_board.Given as goal

abbrev pub ghosts-call_on-B-Tag : goal.ghosts-call_on-B-Tag
ghosts-call_on-B-Tag g a = record { word = a.blank.word }

abbrev pub ghosts-call_on-B-Ledger : goal.ghosts-call_on-B-Ledger
ghosts-call_on-B-Ledger g a = record { name = a.blank.ledger.name; parts = a.blank.ledger.parts }
