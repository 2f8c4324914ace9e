use Rattle.std.proofs.Common.{◌≡◌, ℤ, true, false, Option, Some, List, [], ◌∷◌, map, sym, ap, ◌∙◌, rules}
use Rattle.rules.specs.declared.term.Term.{Term}
use Rattle.rules.specs.Meaning.{State, number_of, value_of}
use Rattle.object_terms.specs.declared.function.Function.TheVariants.{Both, Not, Choice}
use Rattle.object_terms.specs.Terms.{choice, applied}
use Rattle.object_terms.proofs.Truths.{one_popped}
use Rattle.object_terms.proofs.term.not_of.Goals as goal

pub returns : goal.returns
returns c = λ s g.
    let p = c.in-Some-None in
    let none : c.pop.new.self.items ≡ [] = search rules in
    let e = one_popped c.args.terms.items c.pop.new.self.items p.a p.ensures.items none in
    c.in_ok-chosen.ensures s g
    ∙ ap (λ x. choice (value_of p.a s g) x (value_of c.truth-2.result s g)) (c.truth.ensures s g)
    ∙ ap (λ x. choice (value_of p.a s g) (Some (number_of false)) x) (c.truth-2.ensures s g)
    ∙ ap (λ (ts : List Term). applied Not (map (λ t. value_of t s g) ts)) (sym e)
