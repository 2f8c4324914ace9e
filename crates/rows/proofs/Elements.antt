-- elements of lists
use Rattle.std.proofs.Common.{◌≡◌, ◌⊎◌, inl, inr, ⊎_elim, ℕ, ◌+◌, Some, List, [], ◌∷◌, ◌++◌, map, take, slice_get, ap, ◌∙◌, subst, arith}
use Rattle.std.specs.List.{Contains}
use Rattle.std.proofs.lemmas.List.{take_more}
use Rattle.std.proofs.lemmas.List.Elements.{Contains-append_left, Contains-append_right, Contains-push, Contains-push_cases, Contains-append_cases}
use Rattle.std.proofs.lemmas.Option.{slice_get_within, get_or_from_slice_get}

pub Contains-head : {X : Type 0} (x : X) (xs : List X) → Contains (x ∷ xs) x
Contains-head x xs = Contains-append_left (x ∷ []) xs x (Contains-push [] x)

pub Contains-tail : {X : Type 0} (x : X) (xs : List X) (y : X) → Contains xs y → Contains (x ∷ xs) y
Contains-tail x xs y h = Contains-append_right (x ∷ []) xs y h

pub Contains-nil : {X : Type 0} (y : X) → Contains [] y → ⊥
Contains-nil y h = omega arith

single : {X : Type 0} (x y : X) → Contains (x ∷ []) y → x ≡ y
single x y h = ⊎_elim (λ k. absurd (Contains-nil y k)) (λ e. e) (Contains-push_cases [] x y h)

pub Contains-cons_cases : {X : Type 0} (x : X) (xs : List X) (y : X) → Contains (x ∷ xs) y → (x ≡ y) ⊎ Contains xs y
Contains-cons_cases x xs y h = ⊎_elim (λ k. inl (single x y k)) inr (Contains-append_cases (x ∷ []) xs y h)

pub to_map : {X Y : Type 0} (f : X → Y) (xs : List X) (x : X) → Contains xs x → Contains (map f xs) (f x)
to_map f [] x h = absurd (Contains-nil x h)
to_map f (y ∷ xs) x h =
    ⊎_elim
    (λ e. subst (λ w. Contains (f y ∷ map f xs) (f w)) e (Contains-head (f y) (map f xs)))
    (λ k. Contains-tail (f y) (map f xs) (f x) (to_map f xs x k))
    (Contains-cons_cases y xs x h)

pub from_map : {X Y : Type 0} (f : X → Y) (xs : List X) (y : Y) → Contains (map f xs) y → (x : X) × Contains xs x × (f x ≡ y)
from_map f [] y h = absurd (Contains-nil y h)
from_map f (x ∷ xs) y h =
    ⊎_elim
    (λ e. (x, Contains-head x xs, e))
    (λ k. let {- the same in the rest -} r = from_map f xs y k in (r.0, Contains-tail x xs r.0 r.1, r.2))
    (Contains-cons_cases (f x) (map f xs) y h)

pub has_place : {X : Type 0} (xs : List X) (i : ℕ) (x : X) → slice_get xs i ≡ Some x → Contains xs x
has_place xs i x e = (i, slice_get_within xs i x e, get_or_from_slice_get xs i x x e)

pub taken_more : {X : Type 0} (xs : List X) (i : ℕ) (x : X) → slice_get xs i ≡ Some x → take (i + 1) xs ≡ take i xs ++ x ∷ []
taken_more xs i x h =
    take_more xs i x (slice_get_within xs i x h) ∙ ap (λ y. take i xs ++ y ∷ []) (get_or_from_slice_get xs i x x h)
