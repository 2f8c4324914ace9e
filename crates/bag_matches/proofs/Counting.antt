-- how many elements of a list pass a test
use Rattle.std.proofs.Common.{◌≡◌, ◌≢◌, ℕ, ◌+◌, ◌≤◌, ⊎_elim, Bool, true, cond, List, [], ◌∷◌, ◌++◌, map, length, refl, sym, ap, ◌∙◌, subst, arith}
use Rattle.std.specs.List.{Contains, filter, count_by}
use Rattle.std.proofs.lemmas.Bool.{cases_Bool}
use Rattle.std.proofs.lemmas.List.{length-map}
use Rattle.std.proofs.lemmas.List.Sums.{length-filter, sum_by-append, sum_by-cons, sum_by_push}
use Rattle.linspec.specs.Orders.{Pairwise}
use Rattle.linspec.proofs.Lists.{Contains-head, Contains-tail, Pairwise-weaker, cut_at}
use Rattle.linspec.proofs.Filters.{from_filter, to_filter, Pairwise-filter, from_map, to_map}
use Rattle.linspec.proofs.Counts.{no_longer_than}

module _ {X : Type 0} (p : X → Bool) where
  pub count_cons : (x : X) (xs : List X) → count_by p (x ∷ xs) ≡ cond (p x) 1 0 + count_by p xs
  count_cons x xs = sum_by-cons (λ y. cond (p y) 1 0) x xs

  pub count_append : (xs ys : List X) → count_by p (xs ++ ys) ≡ count_by p xs + count_by p ys
  count_append xs ys = sum_by-append (λ y. cond (p y) 1 0) xs ys

  pub count_push : (xs : List X) (y : X) → count_by p (xs ++ y ∷ []) ≡ count_by p xs + cond (p y) 1 0
  count_push xs y = sum_by_push (λ z. cond (p z) 1 0) xs y

pub count_same : {X : Type 0} (p q : X → Bool) (xs : List X) → ((x : X) → Contains xs x → p x ≡ q x) → count_by p xs ≡ count_by q xs
count_same p q [] same = refl
count_same p q (x ∷ xs) same =
    let a = count_cons p x xs in
    let b = count_cons q x xs in
    let rest : count_by p xs ≡ count_by q xs = count_same p q xs (λ y h. same y (Contains-tail x xs y h)) in
    let here : cond {A = ℕ} (p x) 1 0 ≡ cond (q x) 1 0 = ap (λ t. cond t 1 0) (same x (Contains-head x xs)) in
    omega arith

pub count_mono : {X : Type 0} (p q : X → Bool) (xs : List X) → ((x : X) → p x ≡ true → q x ≡ true) → count_by p xs ≤ count_by q xs
count_mono p q [] more = omega arith
count_mono p q (x ∷ xs) more =
    let a = count_cons p x xs in
    let b = count_cons q x xs in
    let rest : count_by p xs ≤ count_by q xs = count_mono p q xs more in
    ⊎_elim
    (λ t. (let c : cond {A = ℕ} (p x) 1 0 ≡ 1 = ap (λ z. cond z 1 0) t in let d : cond {A = ℕ} (q x) 1 0 ≡ 1 = ap (λ z. cond z 1 0) (more x t) in omega arith))
    (λ f. (let c : cond {A = ℕ} (p x) 1 0 ≡ 0 = ap (λ z. cond z 1 0) f in omega arith))
    (cases_Bool (p x))

pub count_map : {X Y : Type 0} (p : Y → Bool) (f : X → Y) (xs : List X) → count_by p (map f xs) ≡ count_by (λ x. p (f x)) xs
count_map p f [] = refl
count_map p f (x ∷ xs) = let a = count_cons p (f x) (map f xs) in let b = count_cons (λ y. p (f y)) x xs in let r = count_map p f xs in omega arith

-- R holds of each element and each later one where it holds across each two cuts
pub Pairwise-cuts : {X : Type 0} (R : X → X → Type 0) (xs : List X) → ((a b c : List X) (x y : X) → a ++ x ∷ (b ++ y ∷ c) ≡ xs → R x y) → Pairwise R xs
Pairwise-cuts R [] h = tt
Pairwise-cuts R (x ∷ xs) h = (
  (λ y k. (let d = cut_at xs y k in h [] d.0 d.1 x y (ap (λ l. x ∷ l) (sym d.2)))),
  Pairwise-cuts R xs (λ a b c z y e. h (x ∷ a) b c z y (ap (λ l. x ∷ l) e)),
)

Pairwise-map : {X Y : Type 0} (R : Y → Y → Type 0) (f : X → Y) (xs : List X) → Pairwise (λ x y. R (f x) (f y)) xs → Pairwise R (map f xs)
Pairwise-map R f [] h = tt
Pairwise-map R f (x ∷ xs) h = ((λ y k. (let r = from_map f xs y k in subst (R (f x)) r.2 (h.0 r.0 r.1))), Pairwise-map R f xs h.1)

-- those that pass p have different keys, each a key of one that passes q: then no more pass p than q
module _ {X Y : Type 0} (p : X → Bool) (q : Y → Bool) (k : X → ℕ) (l : Y → ℕ) where
  abbrev pub Apart : X → X → Type 0
  Apart a b = p a ≡ true → p b ≡ true → k a ≢ k b

  pub count_le : (xs : List X) (ys : List Y) → Pairwise Apart xs
      → ((x : X) → Contains xs x → p x ≡ true → (y : Y) × Contains ys y × (q y ≡ true) × (l y ≡ k x))
      → count_by p xs ≤ count_by q ys
  count_le xs ys apart each =
      let ours : List ℕ = map k (filter p xs) in
      let theirs : List ℕ = map l (filter q ys) in
      let once : Pairwise (λ a b. a ≢ b) ours = Pairwise-map (λ a b. a ≢ b) k (filter p xs) (Pairwise-weaker Apart (λ a b. k a ≢ k b) (filter p xs) (λ a b h i r. r (from_filter p xs a h).1 (from_filter p xs b i).1) (Pairwise-filter p Apart xs apart)) in
      let among : (n : ℕ) → Contains ours n → Contains theirs n = λ n h. (
      let r = from_map k (filter p xs) n h in
      let f = from_filter p xs r.0 r.1 in
      let y = each r.0 f.0 f.1 in
      subst (Contains theirs) (y.3 ∙ r.2) (to_map l (filter q ys) y.0 (to_filter q ys y.0 y.1 y.2))) in
      let a : length ours ≤ length theirs = no_longer_than ours theirs once among in
      let b : length ours ≡ length (filter p xs) = length-map (filter p xs) k in
      let c : length theirs ≡ length (filter q ys) = length-map (filter q ys) l in
      let d : length (filter p xs) ≡ count_by p xs = length-filter p xs in
      let e : length (filter q ys) ≡ count_by q ys = length-filter q ys in
      omega arith
