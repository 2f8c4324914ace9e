use Rattle.std.proofs.Common.{◌≡◌, ℤ, List, map, vec_len}
use Rattle.rules.specs.Meaning.{State, value_of}
use Rattle.object_terms.specs.Terms.{all_of}
use Rattle.object_terms.proofs.Truths.{all_then}
use Rattle.object_terms.proofs.term.all_of.Given as goal

abbrev pub decreases-loop-term : goal.decreases-loop-term
decreases-loop-term l = vec_len l.terms

abbrev pub invariant-loop-term : goal.invariant-loop-term
invariant-loop-term l = (state : State) (given : List ℤ)
    → all_of (map (λ t. value_of t state given) l.fn.terms.items) ≡ all_then (map (λ t. value_of t state given) l.terms.items) (value_of l.rest state given)
