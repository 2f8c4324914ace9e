-- truths one after the other, of which the last ones are already looked at
use Rattle.std.proofs.Common.{◌≡◌, ℤ, true, false, Option, Some, List, [], ◌∷◌, ◌++◌, map, refl, sym, ap, ◌∙◌}
use Rattle.rules.specs.Meaning.{number_of}
use Rattle.object_terms.specs.Terms.{choice, all_of, any_of}

-- whether these are all true and then the rest is
abbrev pub all_then : List (Option (Option ℤ)) → Option (Option ℤ) → Option (Option ℤ)
all_then [] rest = rest
all_then (v ∷ vs) rest = choice v (all_then vs rest) (Some (number_of false))

abbrev pub any_then : List (Option (Option ℤ)) → Option (Option ℤ) → Option (Option ℤ)
any_then [] rest = rest
any_then (v ∷ vs) rest = choice v (Some (number_of true)) (any_then vs rest)

pub all_whole : (vs : List (Option (Option ℤ))) → all_of vs ≡ all_then vs (Some (number_of true))
all_whole [] = refl
all_whole (v ∷ vs) = ap (λ r. choice v r (Some (number_of false))) (all_whole vs)

pub any_whole : (vs : List (Option (Option ℤ))) → any_of vs ≡ any_then vs (Some (number_of false))
any_whole [] = refl
any_whole (v ∷ vs) = ap (λ r. choice v (Some (number_of true)) r) (any_whole vs)

pub all_last : (vs : List (Option (Option ℤ))) (v rest : Option (Option ℤ)) → all_then (vs ++ v ∷ []) rest ≡ all_then vs (choice v rest (Some (number_of false)))
all_last [] v rest = refl
all_last (w ∷ vs) v rest = ap (λ r. choice w r (Some (number_of false))) (all_last vs v rest)

pub any_last : (vs : List (Option (Option ℤ))) (v rest : Option (Option ℤ)) → any_then (vs ++ v ∷ []) rest ≡ any_then vs (choice v (Some (number_of true)) rest)
any_last [] v rest = refl
any_last (w ∷ vs) v rest = ap (λ r. choice w (Some (number_of true)) r) (any_last vs v rest)

map_push : {T : Type 0} (f : T → Option (Option ℤ)) (ts : List T) (t : T) → map f (ts ++ t ∷ []) ≡ map f ts ++ f t ∷ []
map_push f [] t = refl
map_push f (x ∷ ts) t = ap (λ ys. f x ∷ ys) (map_push f ts t)

-- the last one is looked at before the rest
pub all_step : {T : Type 0} (f : T → Option (Option ℤ)) (whole : Option (Option ℤ)) (terms left : List T) (term : T) (rest next other : Option (Option ℤ))
    → whole ≡ all_then (map f terms) rest → terms ≡ left ++ term ∷ [] → other ≡ Some (number_of false) → next ≡ choice (f term) rest other → whole ≡ all_then (map f left) next
all_step f whole terms left term rest next other e split is made =
    e ∙ ap (λ ts. all_then (map f ts) rest) split ∙ ap (λ vs. all_then vs rest) (map_push f left term) ∙ all_last (map f left) (f term) rest
    ∙ ap (all_then (map f left)) (ap (λ n. choice (f term) rest n) (sym is) ∙ sym made)

pub any_step : {T : Type 0} (f : T → Option (Option ℤ)) (whole : Option (Option ℤ)) (terms left : List T) (term : T) (rest next other : Option (Option ℤ))
    → whole ≡ any_then (map f terms) rest → terms ≡ left ++ term ∷ [] → other ≡ Some (number_of true) → next ≡ choice (f term) other rest → whole ≡ any_then (map f left) next
any_step f whole terms left term rest next other e split is made =
    e ∙ ap (λ ts. any_then (map f ts) rest) split ∙ ap (λ vs. any_then vs rest) (map_push f left term) ∙ any_last (map f left) (f term) rest
    ∙ ap (any_then (map f left)) (ap (λ n. choice (f term) n rest) (sym is) ∙ sym made)

-- a list of which one, two or three were taken off the end until it was empty
pub one_popped : {X : Type 0} (xs ys : List X) (a : X) → xs ≡ ys ++ a ∷ [] → ys ≡ [] → xs ≡ a ∷ []
one_popped xs ys a e empty = e ∙ ap (λ l. l ++ a ∷ []) empty

pub two_popped : {X : Type 0} (xs ys zs : List X) (a b : X) → xs ≡ ys ++ b ∷ [] → ys ≡ zs ++ a ∷ [] → zs ≡ [] → xs ≡ a ∷ b ∷ []
two_popped xs ys zs a b e f empty = e ∙ ap (λ l. l ++ b ∷ []) (one_popped ys zs a f empty)

pub three_popped : {X : Type 0} (xs ys zs ws : List X) (a b c : X) → xs ≡ ys ++ c ∷ [] → ys ≡ zs ++ b ∷ [] → zs ≡ ws ++ a ∷ [] → ws ≡ [] → xs ≡ a ∷ b ∷ c ∷ []
three_popped xs ys zs ws a b c e f g empty = e ∙ ap (λ l. l ++ c ∷ []) (two_popped ys zs ws a b f g empty)
