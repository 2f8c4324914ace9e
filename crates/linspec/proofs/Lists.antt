-- lists cut in two, and elements pairwise
use Rattle.std.proofs.Common.{◌≡◌, ◌⊎◌, inl, inr, List, [], ◌∷◌, ◌++◌, refl, ap, subst, arith, ⊎_elim}
use Rattle.std.specs.List.{Contains}
use Rattle.std.proofs.lemmas.List.Elements.{Contains-append_left, Contains-append_right, Contains-push, Contains-push_cases, Contains-append_cases}
use Rattle.linspec.specs.Orders.{Pairwise}

-- the first is an element, and so is each of the rest
pub Contains-head : {X : Type 0} (x : X) (xs : List X) → Contains (x ∷ xs) x
Contains-head x xs = Contains-append_left (x ∷ []) xs x (Contains-push [] x)

pub Contains-tail : {X : Type 0} (x : X) (xs : List X) (y : X) → Contains xs y → Contains (x ∷ xs) y
Contains-tail x xs y h = Contains-append_right (x ∷ []) xs y h

pub Contains-nil : {X : Type 0} (y : X) → Contains [] y → ⊥
Contains-nil y h = omega arith

single : {X : Type 0} (x y : X) → Contains (x ∷ []) y → x ≡ y
single x y h = ⊎_elim (λ k. absurd (Contains-nil y k)) (λ e. e) (Contains-push_cases [] x y h)

pub Contains-cons_cases : {X : Type 0} (x : X) (xs : List X) (y : X) → Contains (x ∷ xs) y → (x ≡ y) ⊎ Contains xs y
Contains-cons_cases x xs y h = ⊎_elim (λ k. inl (single x y k)) inr (Contains-append_cases (x ∷ []) xs y h)

no_more : {X : Type 0} (xs ys : List X) → xs ++ ys ≡ [] → ys ≡ []
no_more [] ys h = h
no_more (x ∷ xs) ys h = cc

-- a list that ends with e, cut in two: the cut is at its end, or e ends the second part
pub snoc_cut : {X : Type 0} (before after xs : List X) (e : X) → before ++ after ≡ xs ++ e ∷ [] → (after ≡ []) ⊎ ((rest : List X) × (after ≡ rest ++ e ∷ []) × (before ++ rest ≡ xs))
snoc_cut [] after xs e h = inr (xs, h, refl)
snoc_cut (b ∷ before) after [] e h = inl (no_more before after (let t : before ++ after ≡ [] = cc in t))
snoc_cut (b ∷ before) after (x ∷ xs) e h =
    let heads : b ≡ x = cc in
    let tails : before ++ after ≡ xs ++ e ∷ [] = cc in
    ⊎_elim inl (λ c. inr (c.0, c.1, (let t : before ++ c.0 ≡ xs = c.2 in cc))) (snoc_cut before after xs e tails)

-- pairwise in xs ++ ys
pub Pairwise-append : {X : Type 0} (R : X → X → Type 0) (xs ys : List X) → Pairwise R xs → Pairwise R ys → ((x y : X) → Contains xs x → Contains ys y → R x y) → Pairwise R (xs ++ ys)
Pairwise-append R [] ys p q h = q
Pairwise-append R (x ∷ xs) ys p q h = (
  λ y k. ⊎_elim (p.0 y) (h x y (Contains-head x xs)) (Contains-append_cases xs ys y k),
  Pairwise-append R xs ys p.1 q (λ a b j k. h a b (Contains-tail x xs a j) k),
)

pub Pairwise-left : {X : Type 0} (R : X → X → Type 0) (xs ys : List X) → Pairwise R (xs ++ ys) → Pairwise R xs
Pairwise-left R [] ys p = tt
Pairwise-left R (x ∷ xs) ys p = (λ y h. p.0 y (Contains-append_left xs ys y h), Pairwise-left R xs ys p.1)

pub Pairwise-across : {X : Type 0} (R : X → X → Type 0) (xs ys : List X) → Pairwise R (xs ++ ys) → (x y : X) → Contains xs x → Contains ys y → R x y
Pairwise-across R [] ys p x y h k = absurd (Contains-nil x h)
Pairwise-across R (z ∷ xs) ys p x y h k =
    ⊎_elim (λ e. subst (λ w. R w y) e (p.0 y (Contains-append_right xs ys y k))) (λ j. Pairwise-across R xs ys p.1 x y j k) (Contains-cons_cases z xs x h)

pub Pairwise-right : {X : Type 0} (R : X → X → Type 0) (xs ys : List X) → Pairwise R (xs ++ ys) → Pairwise R ys
Pairwise-right R [] ys p = p
Pairwise-right R (x ∷ xs) ys p = Pairwise-right R xs ys p.1

pub Pairwise-weaker : {X : Type 0} (R S : X → X → Type 0) (xs : List X) → ((x y : X) → Contains xs x → Contains xs y → R x y → S x y) → Pairwise R xs → Pairwise S xs
Pairwise-weaker R S [] h p = tt
Pairwise-weaker R S (x ∷ xs) h p = (
  λ y k. h x y (Contains-head x xs) (Contains-tail x xs y k) (p.0 y k),
  Pairwise-weaker R S xs (λ a b j k. h a b (Contains-tail x xs a j) (Contains-tail x xs b k)) p.1,
)

-- a list at an element
pub cut_at : {X : Type 0} (xs : List X) (x : X) → Contains xs x → (ys : List X) × (zs : List X) × (xs ≡ ys ++ x ∷ zs)
cut_at [] x h = absurd (Contains-nil x h)
cut_at (y ∷ xs) x h =
    ⊎_elim
    (λ e. ([], xs, ap (λ w. w ∷ xs) e))
    (λ k. let r = cut_at xs x k in (y ∷ r.0, r.1, ap (λ l. y ∷ l) r.2))
    (Contains-cons_cases y xs x h)
