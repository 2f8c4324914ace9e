-- elements of lists, each once
use Rattle.std.proofs.Common.{◌≡◌, ◌≢◌, ⊎_elim, ℕ, ◌*◌, ◌≤◌, Bool, true, false, cond, List, [], ◌∷◌, ◌++◌, map, length, length-append, refl, sym, ap, ◌∙◌, subst, arith}
use Rattle.std.specs.List.{Contains, filter, flat_map}
use Rattle.std.proofs.lemmas.Bool.{true≢false}
use Rattle.std.proofs.lemmas.List.Elements.{Contains-append_left, Contains-append_right, Contains-append_cases}
use Rattle.rows.proofs.Elements.{Contains-nil, Contains-head, Contains-tail, Contains-cons_cases, from_map}

-- R holds of each element and each later one
abbrev pub Pairwise : {X : Type 0} → (X → X → Type 0) → List X → Type 0
Pairwise R [] = Unit {0}
Pairwise {X} R (x ∷ xs) = ((y : X) → Contains xs y → R x y) × Pairwise R xs

-- no element stands there twice
abbrev pub Once : {X : Type 0} → List X → Type 0
Once xs = Pairwise (λ x y. x ≢ y) xs

pub pairwise_weaker : {X : Type 0} (R S : X → X → Type 0) → ((x y : X) → R x y → S x y) → (xs : List X) → Pairwise R xs → Pairwise S xs
pairwise_weaker R S f [] a = tt
pairwise_weaker R S f (x ∷ xs) a = (λ y h. f x y (a.0 y h), pairwise_weaker R S f xs a.1)

pub once_append : {X : Type 0} (xs ys : List X) → Once xs → Once ys → ((x : X) → Contains xs x → Contains ys x → ⊥) → Once (xs ++ ys)
once_append [] ys a b apart = b
once_append (x ∷ xs) ys a b apart = (
  λ y h e. ⊎_elim (λ k. a.0 y k e) (λ k. apart x (Contains-head x xs) (subst (Contains ys) (sym e) k)) (Contains-append_cases xs ys y h),
  once_append xs ys a.1 b (λ z h k. apart z (Contains-tail x xs z h) k),
)

pub once_map : {X Y : Type 0} (f : X → Y) → ((x y : X) → f x ≡ f y → x ≡ y) → (xs : List X) → Once xs → Once (map f xs)
once_map f same [] a = tt
once_map f same (x ∷ xs) a = (
  λ y h e. let r = from_map f xs y h in a.0 r.0 r.1 (same x r.0 (e ∙ sym r.2)),
  once_map f same xs a.1,
)

-- ---- a filter

pub to_filter : {X : Type 0} (p : X → Bool) (xs : List X) (x : X) → Contains xs x → p x ≡ true → Contains (filter p xs) x
to_filter p [] x h is = absurd (Contains-nil x h)
to_filter p (y ∷ ys) x h is = by (p y) refl (to_filter p ys x)
  where
    by : (b : Bool) → p y ≡ b → (Contains ys x → p x ≡ true → Contains (filter p ys) x) → Contains (cond b (y ∷ filter p ys) (filter p ys)) x
    by true e rest =
        ⊎_elim
        (λ s. subst (Contains (y ∷ filter p ys)) s (Contains-head y (filter p ys)))
        (λ k. Contains-tail y (filter p ys) x (rest k is))
        (Contains-cons_cases y ys x h)
    by false e rest =
        ⊎_elim (λ s. absurd (true≢false (sym is ∙ ap p (sym s) ∙ e))) (λ k. rest k is) (Contains-cons_cases y ys x h)

pub from_filter : {X : Type 0} (p : X → Bool) (xs : List X) (x : X) → Contains (filter p xs) x → Contains xs x × (p x ≡ true)
from_filter p [] x h = absurd (Contains-nil x h)
from_filter p (y ∷ ys) x h = by (p y) refl h (from_filter p ys x)
  where
    by : (b : Bool) → p y ≡ b → Contains (cond b (y ∷ filter p ys) (filter p ys)) x → (Contains (filter p ys) x → Contains ys x × (p x ≡ true)) → Contains (y ∷ ys) x × (p x ≡ true)
    by true e k rest =
        ⊎_elim
        (λ s. (subst (Contains (y ∷ ys)) s (Contains-head y ys), ap p (sym s) ∙ e))
        (λ l. let r = rest l in (Contains-tail y ys x r.0, r.1))
        (Contains-cons_cases y (filter p ys) x k)
    by false e k rest = let r = rest k in (Contains-tail y ys x r.0, r.1)

pub once_filter : {X : Type 0} (p : X → Bool) (xs : List X) → Once xs → Once (filter p xs)
once_filter p [] a = tt
once_filter p (x ∷ xs) a = by (p x) (once_filter p xs a.1)
  where
    by : (b : Bool) → Once (filter p xs) → Once (cond b (x ∷ filter p xs) (filter p xs))
    by true rest = (λ y h. a.0 y (from_filter p xs y h).0, rest)
    by false rest = rest

-- ---- a `flat_map`

module _ {X A : Type 0} (f : X → List A) where
  pub to_flat_map : (xs : List X) (x : X) (y : A) → Contains xs x → Contains (f x) y → Contains (flat_map f xs) y
  to_flat_map [] x y h k = absurd (Contains-nil x h)
  to_flat_map (z ∷ zs) x y h k =
      ⊎_elim
      (λ e. Contains-append_left (f z) (flat_map f zs) y (subst (λ w. Contains (f w) y) (sym e) k))
      (λ l. Contains-append_right (f z) (flat_map f zs) y (to_flat_map zs x y l k))
      (Contains-cons_cases z zs x h)

  pub from_flat_map : (xs : List X) (y : A) → Contains (flat_map f xs) y → (x : X) × Contains xs x × Contains (f x) y
  from_flat_map [] y h = absurd (Contains-nil y h)
  from_flat_map (z ∷ zs) y h =
      ⊎_elim
      (λ k. (z, Contains-head z zs, k))
      (λ k. let r = from_flat_map zs y k in (r.0, Contains-tail z zs r.0 r.1, r.2))
      (Contains-append_cases (f z) (flat_map f zs) y h)

  -- where each piece has its elements once, and no two pieces share one
  pub once_flat_map : (xs : List X) → ((x : X) → Contains xs x → Once (f x)) → Pairwise (λ x y. (a : A) → Contains (f x) a → Contains (f y) a → ⊥) xs → Once (flat_map f xs)
  once_flat_map [] each apart = tt
  once_flat_map (x ∷ xs) each apart =
      once_append (f x) (flat_map f xs) (each x (Contains-head x xs))
      (once_flat_map xs (λ y h. each y (Contains-tail x xs y h)) apart.1)
      (λ a h k. let r = from_flat_map xs a k in apart.0 r.0 r.1 a h r.2)

  pub length_pieces : (n : ℕ) → ((x : X) → length (f x) ≡ n) → (xs : List X) → length (flat_map f xs) ≡ length xs * n
  length_pieces n each [] = omega arith
  length_pieces n each (x ∷ xs) =
      let rest = length_pieces n each xs in
      let here = each x in
      length-append (f x) (flat_map f xs) ∙ omega arith

-- ---- two lists with the same elements

-- the list has the element between two parts
Between : {X : Type 0} → List X → X → Type 0
Between {X} ys x = (front : List X) × (back : List X) × (ys ≡ front ++ x ∷ back)

between : {X : Type 0} (ys : List X) (x : X) → Contains ys x → Between ys x
unfolding Between
between [] x h = absurd (Contains-nil x h)
between (y ∷ ys) x h =
    ⊎_elim
    (λ e. ([], ys, ap (λ z. z ∷ ys) e))
    (λ k. let r = between ys x k in (y ∷ r.0, r.1, ap (λ zs. y ∷ zs) r.2))
    (Contains-cons_cases y ys x h)

pub fewer : {X : Type 0} (xs ys : List X) → Once xs → ((x : X) → Contains xs x → Contains ys x) → length xs ≤ length ys
unfolding Between
fewer [] ys a inside = omega arith
fewer {X} (x ∷ xs) ys a inside =
    let r : Between ys x = between ys x (inside x (Contains-head x xs)) in
    let front = r.0 in
    let back = r.1 in
    let rest : length xs ≤ length (front ++ back) = fewer xs (front ++ back) a.1
    (λ z h.
    ⊎_elim
    (λ k. Contains-append_left front back z k)
    (λ k. ⊎_elim (λ e. absurd (a.0 z h e)) (λ l. Contains-append_right front back z l) (Contains-cons_cases x back z k))
    (Contains-append_cases front (x ∷ back) z (subst (λ zs. Contains zs z) r.2 (inside z (Contains-tail x xs z h))))) in
    let l = ap length r.2 in
    let m = length-append front (x ∷ back) in
    let n = length-append front back in
    omega arith

pub same_length : {X : Type 0} (xs ys : List X) → Once xs → Once ys → ((x : X) → Contains xs x → Contains ys x) → ((x : X) → Contains ys x → Contains xs x) → length xs ≡ length ys
same_length xs ys a b to from =
    let {- neither is longer -} l = fewer xs ys a to in
    let m = fewer ys xs b from in
    omega arith
