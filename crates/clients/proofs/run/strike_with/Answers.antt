use Rattle.clients.proofs.run.strike_with.Goals as goal

pub returns-clause-struck : goal.returns-clause-struck
returns-clause-struck g c = λ none. c.strike-why.ensures (c.of_run.ensures.none none)
