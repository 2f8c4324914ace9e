-- lists cut in two
use Rattle.std.proofs.Common.{◌≡◌, ◌⊎◌, inl, inr, ⊎_elim, List, [], ◌∷◌, ◌++◌, refl, sym, ap, ◌∙◌, subst}
use Rattle.std.specs.List.{Contains}
use Rattle.linspec.proofs.Lists.{Contains-nil, Contains-cons_cases}

-- of two cuts of a list the one comes before the other
pub two_cuts : {X : Type 0} (a b c d : List X) → a ++ b ≡ c ++ d
    → ((m : List X) × (c ≡ a ++ m) × (b ≡ m ++ d)) ⊎ ((m : List X) × (a ≡ c ++ m) × (d ≡ m ++ b))
two_cuts [] b c d e = inl (c, refl, e)
two_cuts (x ∷ a) b [] d e = inr (x ∷ a, refl, sym e)
two_cuts (x ∷ a) b (y ∷ c) d e =
    let heads : x ≡ y = cc in
    let tails : a ++ b ≡ c ++ d = cc in
    ⊎_elim
    (λ k. inl (k.0, (let t : c ≡ a ++ k.0 = k.1 in cc), k.2))
    (λ k. inr (k.0, (let t : a ≡ c ++ k.0 = k.1 in cc), k.2))
    (two_cuts a b c d tails)

-- a list up to the last element of which Q holds, and what comes behind
pub record UpToLast {X : Type 0} (Q : X → Type 0) (xs : List X) : Type 0 where
  pub front : List X
  pub rest : List X
  pub cut : xs ≡ front ++ rest
  pub none : (y : X) → Contains rest y → ¬ Q y
  pub last : (front ≡ []) ⊎ ((before : List X) × (x : X) × (front ≡ before ++ x ∷ []) × Q x)

pub up_to_last : {X : Type 0} (Q : X → Type 0) → ((x : X) → Q x ⊎ (¬ Q x)) → (xs : List X) → UpToLast Q xs
up_to_last Q dec [] = record { front = []; rest = []; cut = refl; none = λ y h. absurd (Contains-nil y h); last = inl refl }
up_to_last {X} Q dec (x ∷ xs) =
    let r = up_to_last Q dec xs in
    ⊎_elim
    (λ (e : r.front ≡ []).
    let all : xs ≡ r.rest = r.cut ∙ ap (λ l. l ++ r.rest) e in
    ⊎_elim
    (λ q. record { front = x ∷ []; rest = xs; cut = refl; none = subst (λ l. (y : X) → Contains l y → ¬ Q y) (sym all) r.none; last = inr ([], x, refl, q) })
    (λ n. record {
      front = [];
      rest = x ∷ xs;
      cut = refl;
      none = λ y h q. ⊎_elim (λ s. n (subst Q (sym s) q)) (λ k. r.none y (subst (λ l. Contains l y) all k) q) (Contains-cons_cases x xs y h);
      last = inl refl;
    })
    (dec x))
    (λ k. record { front = x ∷ r.front; rest = r.rest; cut = ap (λ l. x ∷ l) r.cut; none = r.none; last = inr (x ∷ k.0, k.1, ap (λ l. x ∷ l) k.2, k.3) })
    r.last
