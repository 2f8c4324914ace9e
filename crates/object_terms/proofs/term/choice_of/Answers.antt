use Rattle.std.proofs.Common.{◌≡◌, ℤ, true, false, Option, Some, List, [], ◌∷◌, map, sym, ap, ◌∙◌, rules}
use Rattle.rules.specs.declared.term.Term.{Term}
use Rattle.rules.specs.Meaning.{State, number_of, value_of}
use Rattle.object_terms.specs.declared.function.Function.TheVariants.{Both, Not, Choice}
use Rattle.object_terms.specs.Terms.{choice, applied}
use Rattle.object_terms.proofs.Truths.{three_popped}
use Rattle.object_terms.proofs.term.choice_of.Goals as goal

pub returns : goal.returns
returns c = λ s g.
    let p = c.in-Some-Some-Some-None in
    let none : c.pop-3.new.self.items ≡ [] = search rules in
    let e = three_popped c.args.terms.items c.pop.new.self.items c.pop-2.new.self.items c.pop-3.new.self.items p.condition p.a p.b p.ensures.items p.ensures'.items p.ensures''.items none in
    c.in_ok-chosen.ensures s g ∙ ap (λ (ts : List Term). applied Choice (map (λ t. value_of t s g) ts)) (sym e)
