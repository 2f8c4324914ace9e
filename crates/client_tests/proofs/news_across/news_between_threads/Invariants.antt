use Rattle.client_tests.proofs.news_across.news_between_threads.Given as goal

abbrev pub ghosts-tell-B-Tag : goal.ghosts-tell-B-Tag
ghosts-tell-B-Tag g a = record { word = a.blank.word }

abbrev pub ghosts-tell-B-Ledger : goal.ghosts-tell-B-Ledger
ghosts-tell-B-Ledger g a = record { name = a.blank.ledger.name; parts = a.blank.ledger.parts }
