use Rattle.object_terms.specs.Terms.{known_by}
use Rattle.object_terms.proofs.Sequences.{TermsSoFar}
use Rattle.object_terms.proofs.term.+term_of.Given as goal

abbrev pub decreases-term_of : goal.decreases-term_of
decreases-term_of l = l.deep

abbrev pub invariant-loop-value : goal.invariant-loop-value
invariant-loop-value l = TermsSoFar (known_by l.scope) l.call.values.now l.value-index l.terms.items
