-- the outcomes of a dequeue that keeps no order, one after another
use Rattle.std.proofs.Common.{◌≡◌, ◌≢◌, ℕ, ◌+◌, ◌<◌, ℤ, List, [], ◌∷◌, ◌++◌, length, get_or, take, remove, ap, ◌∙◌}
use Rattle.std.proofs.lemmas.List.{map-append}
use Rattle.models.specs.declared.finding.Found.TheVariants.{Item}
use Rattle.values.specs.Multisets.{NeverFalls, without_one, values_of}
use Rattle.models.specs.Objects.{taken_from}
use Rattle.values.proofs.Firsts.{values_new, first_is_taken}

module _ (s : List ℤ) (at : ℕ) (d : ℤ) (fits : at < length s) (is : NeverFalls s) where
  -- a value that was not there
  module _ (new : (p : ℕ) (e : ℤ) → p + 1 ≡ at → get_or s p e ≢ get_or s at e) where
    pub taken_new : taken_from s (values_of (take (at + 1) s)) ≡ taken_from s (values_of (take at s)) ++ (remove s at, Item (get_or s at d)) ∷ []
    taken_new =
        ap (taken_from s) (values_new s at d fits is new)
        ∙ map-append (λ w. (without_one w s, Item w)) (values_of (take at s)) (get_or s at d ∷ [])
        ∙ ap (λ r. taken_from s (values_of (take at s)) ++ (r, Item (get_or s at d)) ∷ []) (first_is_taken s at d fits is new)
