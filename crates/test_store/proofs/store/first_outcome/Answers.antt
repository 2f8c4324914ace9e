use Rattle.std.proofs.Common.{◌≡◌, ◌↔◌, ◌<◌, ◌++◌, Option, Some, None, List, [], ◌∷◌, IsSome, length, take, option_to_list, vec_len, rules, refl, sym, ap, ◌∙◌, arith}
use Rattle.test_store.specs.Store.{first_of}
use Rattle.test_store.proofs.store.first_outcome.Goals as goal

-- the last of one at most is the first of all
last_first : {X : Type 0} (xs rest : List X) (r : Option X) → take 1 xs ≡ rest ++ option_to_list r → IsSome r ↔ (0 < length (take 1 xs)) → r ≡ first_of xs
last_first [] rest None is some = refl
last_first [] rest (Some x) is some = (let l : 0 < 0 = some.0 refl in absurd (omega (arith, l)))
last_first (x ∷ xs) rest None is some = (let s = some.1 (omega arith) in cc)
last_first (x ∷ xs) [] (Some y) is some = (let e : x ∷ [] ≡ y ∷ [] = is in cc)
last_first (x ∷ xs) (z ∷ []) (Some y) is some = (let e : x ∷ [] ≡ z ∷ y ∷ [] = is in cc)
last_first (x ∷ xs) (z ∷ w ∷ rest) (Some y) is some = (let e : x ∷ [] ≡ z ∷ w ∷ (rest ++ y ∷ []) = is in cc)

pub returns : goal.returns
returns c kind s e =
    let outcomes = c.in_ok-outcomes.outcomes.items in
    let cut : c.truncate.new.self.items ≡ take 1 outcomes = c.truncate.ensures.items in
    let long : vec_len c.truncate.new.self ≡ length c.truncate.new.self.items = search rules in
    let same : length c.truncate.new.self.items ≡ length (take 1 outcomes) = ap length cut in
    let variant = c.pop.ensures.variant in
    let some : IsSome c.pop.result ↔ (0 < length (take 1 outcomes)) = (
      (λ h. let l : 0 < vec_len c.truncate.new.self = variant.0 h in omega (arith, l, long, same)),
      (λ h. variant.1 (omega (arith, h, long, same))),
    ) in
    last_first outcomes c.pop.new.self.items c.pop.result (sym cut ∙ c.pop.ensures.items) some ∙ ap first_of (c.in_ok-outcomes.ensures kind s e)
