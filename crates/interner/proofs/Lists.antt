-- places of lists
use Rattle.std.proofs.Common.{◌≡◌, ℕ, zero, suc, ◌+◌, ◌<◌, ◌⊎◌, inl, inr, ⊎_elim, Option, Some, None, unwrap_or, List, [], ◌∷◌, ◌++◌, map, length, take, drop, slice_get, get_or, refl, sym, ap, ◌∙◌, subst, arith}
use Rattle.std.specs.List.{Contains}
use Rattle.std.proofs.lemmas.List.{take_more, take-append-drop}
use Rattle.std.proofs.lemmas.Option.{slice_get_read, slice_get_within, get_or_from_slice_get}
use Rattle.events.specs.Events.{IsPrefixOf}
use Rattle.interner.specs.Numbers.{IsOnceIn}

pub clash : {X : Type 0} (x : X) (r : Option X) → r ≡ None → r ≡ Some x → ⊥
clash x r e f = cc

pub one_of : {X : Type 0} (x y : X) → Some x ≡ Some y → x ≡ y
one_of x y e = ap (λ r. unwrap_or r x) e

pub place_of : {X : Type 0} (xs : List X) (x : X) → Contains xs x → (i : ℕ) × (slice_get xs i ≡ Some x)
place_of xs x h = (h.0, slice_get_read xs (length xs) h.0 x refl h.1 (sym h.2))

pub has_place : {X : Type 0} (xs : List X) (i : ℕ) (x : X) → slice_get xs i ≡ Some x → Contains xs x
has_place xs i x e = (i, slice_get_within xs i x e, get_or_from_slice_get xs i x x e)

pub some_at : {X : Type 0} (xs : List X) (i : ℕ) → i < length xs → (x : X) × (slice_get xs i ≡ Some x)
some_at [] i lt = absurd (omega arith)
some_at (x ∷ xs) zero lt = (x, refl)
some_at (x ∷ xs) (suc i) lt = some_at xs i (omega arith)

pub get_left : {X : Type 0} (xs ys : List X) (i : ℕ) (x : X) → slice_get xs i ≡ Some x → slice_get (xs ++ ys) i ≡ Some x
get_left [] ys i x e = absurd (clash x _ refl e)
get_left (y ∷ xs) ys zero x e = e
get_left (y ∷ xs) ys (suc i) x e = get_left xs ys i x e

pub get_front : {X : Type 0} (xs ys : List X) (i : ℕ) (x : X) → IsPrefixOf xs ys → slice_get xs i ≡ Some x → slice_get ys i ≡ Some x
get_front xs ys i x front e = subst (λ l. slice_get l i ≡ Some x) front.1 (get_left xs front.0 i x e)

pub get_taken : {X : Type 0} (xs : List X) (n i : ℕ) (x : X) → slice_get (take n xs) i ≡ Some x → slice_get xs i ≡ Some x
get_taken xs n i x e = subst (λ l. slice_get l i ≡ Some x) (take-append-drop n xs) (get_left (take n xs) (drop n xs) i x e)

pub get_last : {X : Type 0} (xs : List X) (x : X) → slice_get (xs ++ x ∷ []) (length xs) ≡ Some x
get_last [] x = refl
get_last (y ∷ xs) x = get_last xs x

-- an element of a list with one more
pub get_push : {X : Type 0} (xs : List X) (y : X) (i : ℕ) (x : X) → slice_get (xs ++ y ∷ []) i ≡ Some x → (slice_get xs i ≡ Some x) ⊎ ((i ≡ length xs) × (y ≡ x))
get_push [] y zero x e = inr (refl, one_of y x e)
get_push [] y (suc i) x e = absurd (clash x _ refl e)
get_push (z ∷ xs) y zero x e = inl e
get_push (z ∷ xs) y (suc i) x e = ⊎_elim (λ h. inl h) (λ h. inr (ap suc h.0, h.1)) (get_push xs y i x e)

pub mapped_at : {X Y : Type 0} (f : X → Y) (xs : List X) (i : ℕ) (x : X) → i < length xs → x ≡ get_or xs i x → slice_get (map f xs) i ≡ Some (f x)
mapped_at f [] i x lt is = absurd (omega (arith, lt))
mapped_at f (y ∷ xs) zero x lt is = ap (λ z. Some (f z)) (sym is)
mapped_at f (y ∷ xs) (suc i) x lt is = mapped_at f xs i x (omega (arith, lt)) is

-- one more, which is new
pub once_push : {X : Type 0} (xs : List X) (y : X) → ¬ Contains xs y → IsOnceIn xs → IsOnceIn (xs ++ y ∷ [])
once_push xs y new once i j x a b =
    ⊎_elim
    (λ p. ⊎_elim (λ q. once i j x p q) (λ q. absurd (new (subst (Contains xs) (sym q.1) (has_place xs i x p)))) (get_push xs y j x b))
    (λ p. ⊎_elim (λ q. absurd (new (subst (Contains xs) (sym p.1) (has_place xs j x q)))) (λ q. p.0 ∙ sym q.0) (get_push xs y j x b))
    (get_push xs y i x a)

-- a front with one more
pub one_more : {C : Type 0} (cs : List C) (i : ℕ) (c : C) → i < length cs → c ≡ get_or cs i c → take (i + 1) cs ≡ take i cs ++ c ∷ []
one_more cs i c l is = take_more cs i c l ∙ ap (λ x. take i cs ++ x ∷ []) (sym is)

pub taken_more : {X : Type 0} (xs : List X) (i : ℕ) (x : X) → slice_get xs i ≡ Some x → take (i + 1) xs ≡ take i xs ++ x ∷ []
taken_more xs i x h = one_more xs i x (slice_get_within xs i x h) (sym (get_or_from_slice_get xs i x x h))
