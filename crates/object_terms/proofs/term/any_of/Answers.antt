use Rattle.std.proofs.Common.{◌≡◌, ℤ, Option, List, [], map, sym, ap, ◌∙◌, rules}
use Rattle.rules.specs.declared.term.Term.{Term}
use Rattle.rules.specs.Meaning.{State, value_of}
use Rattle.object_terms.proofs.Truths.{any_then, any_whole, any_step}
use Rattle.object_terms.proofs.term.any_of.Goals as goal

pub loop-term-init : goal.loop-term-init
loop-term-init c = λ s g. any_whole (map (λ t. value_of t s g) c.args.terms.items) ∙ ap (any_then (map (λ t. value_of t s g) c.args.terms.items)) (sym (c.truth-rest.ensures s g))

pub loop-term-preserved : goal.loop-term-preserved
loop-term-preserved c = λ s g.
    any_step (λ t. value_of t s g) _ c.loop-term.terms.items c.pop.new.self.items c.in-Some.term (value_of c.loop-term.rest s g) (value_of c.in_ok-rest.rest s g) (value_of c.truth.result s g)
    (c.loop-term.invariant s g) c.in-Some.ensures.items (c.truth.ensures s g) (c.in_ok-rest.ensures s g)

pub returns : goal.returns
returns c = λ s g.
    let none : c.loop-term.terms.items ≡ [] = search rules in
    sym (c.loop-term.invariant s g ∙ ap (λ ts. any_then (map (λ t. value_of t s g) ts) (value_of c.loop-term.rest s g)) none)
