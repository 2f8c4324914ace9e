use Rattle.std.proofs.Common.{◌≡◌, ◌≢◌, ℕ, List, Option, Some, None, ◌∷◌, ◌++◌, ap, sym, ◌∙◌, drop, Bor, MatchOption, IfSome, IfNone}
use Rattle.std.proofs.lemmas.Slice.Eq.{strip_prefix_is}
use Rattle.std.proofs.lemmas.Bool.Decides.{Decides-eqb}
use Rattle.edn.proofs.atom.after_name.Goals as goal

behind_both : (text inner others : List ℕ) (first : ℕ) (r : Option (Bor (List ℕ))) → text ≡ first ∷ inner
    → MatchOption r ((rest : List ℕ) → inner ≢ others ++ rest) (λ x. inner ≡ others ++ x.now)
    → IfSome r (λ rest. text ≡ first ∷ (others ++ rest.now))
behind_both text inner others first (Some x) e m = e ∙ ap (λ l. first ∷ l) m
behind_both text inner others first None e m = tt

not_behind : (text inner others : List ℕ) (first : ℕ) (r : Option (Bor (List ℕ))) → text ≡ first ∷ inner
    → MatchOption r ((rest : List ℕ) → inner ≢ others ++ rest) (λ x. inner ≡ others ++ x.now)
    → IfNone r ((t : List ℕ) → text ≡ first ∷ (others ++ t) → ⊥)
not_behind text inner others first (Some x) e m = tt
not_behind text inner others first None e m = λ t h. m t (ap (λ l. drop 1 l) (sym e ∙ h))

pub returns-clause-found : goal.returns-clause-found
returns-clause-found c =
    behind_both _ _ c.args.others.now _ c.strip_prefix.result c.in_ok-inner.ensures.found
    (strip_prefix_is Decides-eqb c.in_ok-inner.inner.now c.args.others.now c.strip_prefix.result c.strip_prefix.ensures.cases)

pub returns-clause-none : goal.returns-clause-none
returns-clause-none c =
    not_behind _ _ c.args.others.now _ c.strip_prefix.result c.in_ok-inner.ensures.found
    (strip_prefix_is Decides-eqb c.in_ok-inner.inner.now c.args.others.now c.strip_prefix.result c.strip_prefix.ensures.cases)
