use Rattle.edn.specs.Longest.IsWord.{nil_word, true_word, false_word}
use Rattle.edn.proofs.Longest.{longest_word, no_word}
use Rattle.edn.proofs.atom.word_at.Goals as goal

pub returns-in-Some-clause-found : goal.returns-in-Some-clause-found
returns-in-Some-clause-found c =
    longest_word _ _ _ _ nil_word c.in-Some.ensures.found

pub returns-in-Some-after_name-clause-found : goal.returns-in-Some-after_name-clause-found
returns-in-Some-after_name-clause-found c =
    longest_word _ _ _ _ true_word c.in-Some-after_name.ensures.found

pub returns-clause-found : goal.returns-clause-found
returns-clause-found c =
    longest_word _ _ _ _ false_word c.in_ok-rest.ensures.found

pub returns-in_err-rest-clause-none : goal.returns-in_err-rest-clause-none
returns-in_err-rest-clause-none c =
    rw c.from_residual.ensures (no_word c.args.text.now c.in_default.ensures.none c.in_default-after_name.ensures.none c.in_err-rest.ensures.none)
