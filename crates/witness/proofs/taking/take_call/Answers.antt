-- the outcome of a call, if there is one
use Rattle.std.proofs.Common.{◌≡◌, ◌+◌, ◌∷◌, ◌++◌, [], ℕ, List, Option, Some, None, MatchOption, vec_len, length, option_to_list, sym, ◌∙◌, arith}
use Rattle.kinds.specs.AnyState.{outcomes_of}
use Rattle.witness.proofs.Outcomes.{taken}
use Rattle.witness.proofs.taking.take_call.Goals as goal

of_last : {X : Type 0} (all front xs : List X) (last : Option X) (n m : ℕ) → n ≡ length xs → xs ≡ all → xs ≡ front ++ option_to_list last → MatchOption last ((n ≡ 0) × (m ≡ 0)) (λ _. m + 1 ≡ n)
    → MatchOption last (all ≡ []) (λ x. all ≡ front ++ x ∷ [])
of_last all front [] None n m long same is none = sym same
of_last all front (x ∷ xs) None n m long same is none = absurd (omega (arith, none.0))
of_last all front xs (Some x) n m long same is some = sym same ∙ is

pub returns : goal.returns
returns c = λ kind s ne is. taken kind s c.args.call.now ne c.pop.new.self.items c.pop.result c.settled.result
    (of_last (outcomes_of kind s c.args.call.now.op) c.pop.new.self.items c.in_ok-outcomes.outcomes.items c.pop.result (vec_len c.in_ok-outcomes.outcomes) (vec_len c.pop.new.self)
    c.in_ok-outcomes.outcomes.ok.0 (c.in_ok-outcomes.ensures kind s is) c.pop.ensures.items c.pop.ensures.cases)
    c.settled.ensures
