use Rattle.clients.proofs.whole_run.run_trial.Given as goal

abbrev pub ghosts-run_on-B-Tag : goal.ghosts-run_on-B-Tag
ghosts-run_on-B-Tag g a = record { word = a.blank.word }

abbrev pub ghosts-run_on-B-Ledger : goal.ghosts-run_on-B-Ledger
ghosts-run_on-B-Ledger g a = record { name = a.blank.ledger.name; parts = a.blank.ledger.parts }
