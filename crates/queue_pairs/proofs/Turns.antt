-- values in turn: each is enqueued and dequeued in an interval of its own, and for any two some order fits both
use Rattle.std.proofs.Common.{◌≡◌, ℕ, zero, suc, ◌≤◌, ◌<◌, min, ◌⊎◌, inl, inr, ⊎_elim, List, [], ◌∷◌, ◌++◌, length, sym, ap, ◌∙◌, subst, arith, length-append}
use Rattle.std.specs.List.{Contains}
use Rattle.std.proofs.lemmas.Bool.{cases_lt}
use Rattle.std.proofs.lemmas.List.Elements.{Contains-append_left, Contains-append_right, Contains-append_cases}
use Rattle.linspec.specs.Orders.{Pairwise}
use Rattle.linspec.proofs.Lists.{Contains-nil, Contains-head, Contains-tail, Contains-cons_cases, Pairwise-append, Pairwise-left, Pairwise-right, Pairwise-across, cut_at}

-- the element with the least number
pub lowest : {X : Type 0} (f : X → ℕ) (x : X) (xs : List X) → (y : X) × Contains (x ∷ xs) y × ((z : X) → Contains (x ∷ xs) z → f y ≤ f z)
lowest f x [] = (x, Contains-head x [], λ z h. ⊎_elim (λ e. subst (λ w. f x ≤ f w) e (omega arith)) (λ k. absurd (Contains-nil z k)) (Contains-cons_cases x [] z h))
lowest f x (w ∷ xs) =
    let r = lowest f w xs in
    ⊎_elim
    (λ small. (x, Contains-head x (w ∷ xs), λ z h. ⊎_elim (λ e. subst (λ q. f x ≤ f q) e (omega arith)) (λ k. (let a : f r.0 ≤ f z = r.2 z k in omega arith)) (Contains-cons_cases x (w ∷ xs) z h)))
    (λ not_small. (r.0, Contains-tail x (w ∷ xs) r.0 r.1, λ z h. ⊎_elim (λ e. subst (λ q. f r.0 ≤ f q) e (omega arith)) (λ k. r.2 z k) (Contains-cons_cases x (w ∷ xs) z h)))
    (cases_lt (f x) (f r.0))

-- x is enqueued from a to b, and dequeued from c to d
module _ {X : Type 0} (a b c d : X → ℕ) where
  -- x may be enqueued before y, and dequeued before y
  pub record MayLead (x y : X) : Type 0 where
    pub in_first : a x ≤ b y
    pub in_first_out : a x ≤ d y
    pub out_first : c x ≤ d y

  -- each may lead itself, and no value that has to be enqueued first has to be dequeued last
  pub record AreFair (xs : List X) : Type 0 where
    pub own : (x : X) → Contains xs x → MayLead x x
    pub turn : (x y : X) → Contains xs x → Contains xs y → b x < a y → d y < c x → ⊥

  leader : (x : X) (xs : List X) → AreFair (x ∷ xs) → (y : X) × Contains (x ∷ xs) y × ((z : X) → Contains (x ∷ xs) z → MayLead y z)
  leader x xs fair =
      let p = lowest (λ y. min (b y) (d y)) x xs in
      let q = lowest d x xs in
      let own_p = fair.own p.0 p.1 in
      let own_q = fair.own q.0 q.1 in
      ⊎_elim
      (λ (lt : d q.0 < c p.0). (
        q.0,
        q.1,
        λ z h. record {
          in_first = in_first_of p.0 q.0 z own_p own_q lt (λ k. fair.turn p.0 q.0 p.1 q.1 k lt) (p.2 z h);
          in_first_out = low (a q.0) (d q.0) (d z) own_q.in_first_out (q.2 z h);
          out_first = low (c q.0) (d q.0) (d z) own_q.out_first (q.2 z h);
        },
      ))
      (λ not_lt. (
        p.0,
        p.1,
        λ z h. record {
          in_first = in_first_at p.0 z own_p (p.2 z h);
          in_first_out = in_first_out_at p.0 z own_p (p.2 z h);
          out_first = (let k : d q.0 ≤ d z = q.2 z h in omega arith);
        },
      ))
      (cases_lt (d q.0) (c p.0))
    where
      low : (i j k : ℕ) → i ≤ j → j ≤ k → i ≤ k
      low i j k h g = omega arith

      in_first_at : (p z : X) → MayLead p p → min (b p) (d p) ≤ min (b z) (d z) → a p ≤ b z
      in_first_at p z own le = let h : a p ≤ b p = own.in_first in let k : a p ≤ d p = own.in_first_out in omega arith

      in_first_out_at : (p z : X) → MayLead p p → min (b p) (d p) ≤ min (b z) (d z) → a p ≤ d z
      in_first_out_at p z own le = let h : a p ≤ b p = own.in_first in let k : a p ≤ d p = own.in_first_out in omega arith

      in_first_of : (p q z : X) → MayLead p p → MayLead q q → d q < c p → ¬ (b p < a q) → min (b p) (d p) ≤ min (b z) (d z) → a q ≤ b z
      in_first_of p q z own_p own_q lt turn le =
          let h : a q ≤ d q = own_q.in_first_out in
          let k : c p ≤ d p = own_p.out_first in
          omega arith

  pub record AreInTurn (Apart : X → X → Type 0) (xs zs : List X) : Type 0 where
    pub lead : Pairwise MayLead zs
    pub apart : Pairwise Apart zs
    pub from : (z : X) → Contains zs z → Contains xs z
    pub to : (z : X) → Contains xs z → Contains zs z

  module _ (Apart : X → X → Type 0) (turned : (x y : X) → Apart x y → Apart y x) where
    -- a list without one of its elements
    module _ (ys zs : List X) (y : X) where
      within : (z : X) → Contains (ys ++ zs) z → Contains (ys ++ y ∷ zs) z
      within z h = ⊎_elim (λ k. Contains-append_left ys (y ∷ zs) z k) (λ k. Contains-append_right ys (y ∷ zs) z (Contains-tail y zs z k)) (Contains-append_cases ys zs z h)

      without : (z : X) → Contains (ys ++ y ∷ zs) z → (y ≡ z) ⊎ Contains (ys ++ zs) z
      without z h = ⊎_elim
          (λ k. inr (Contains-append_left ys zs z k))
          (λ k. ⊎_elim inl (λ j. inr (Contains-append_right ys zs z j)) (Contains-cons_cases y zs z k))
          (Contains-append_cases ys (y ∷ zs) z h)

      apart_rest : Pairwise Apart (ys ++ y ∷ zs) → Pairwise Apart (ys ++ zs)
      apart_rest p = Pairwise-append Apart ys zs (Pairwise-left Apart ys (y ∷ zs) p) (Pairwise-right Apart ys (y ∷ zs) p).1 (λ u w h k. Pairwise-across Apart ys (y ∷ zs) p u w h (Contains-tail y zs w k))

      apart_one : Pairwise Apart (ys ++ y ∷ zs) → (z : X) → Contains (ys ++ zs) z → Apart y z
      apart_one p z h = ⊎_elim
          (λ k. turned z y (Pairwise-across Apart ys (y ∷ zs) p z y k (Contains-head y zs)))
          (λ k. (Pairwise-right Apart ys (y ∷ zs) p).0 z k)
          (Contains-append_cases ys zs z h)

      shorter : length (ys ++ y ∷ zs) ≡ suc (length (ys ++ zs))
      shorter = let e = length-append ys (y ∷ zs) in let f = length-append ys zs in omega (arith, e, f)

    -- one that may lead all, and comes before the others in turn
    module _ (xs ys zs : List X) (y : X) (whole : xs ≡ ys ++ y ∷ zs) where
      from_rest : (z : X) → Contains (ys ++ zs) z → Contains xs z
      from_rest z h = subst (λ l. Contains l z) (sym whole) (within ys zs y z h)

      from_first : (z : X) → y ≡ z → Contains xs z
      from_first z e = subst (λ l. Contains l z) (sym whole) (Contains-append_right ys (y ∷ zs) z (subst (Contains (y ∷ zs)) e (Contains-head y zs)))

      to_rest : (z : X) → Contains xs z → (y ≡ z) ⊎ Contains (ys ++ zs) z
      to_rest z h = without ys zs y z (subst (λ l. Contains l z) whole h)

      led : Pairwise Apart xs → ((z : X) → Contains xs z → MayLead y z) → (rest : List X) → AreInTurn Apart (ys ++ zs) rest → AreInTurn Apart xs (y ∷ rest)
      led apart lead rest r = record {
        lead = ((λ z h. lead z (from_rest z (r.from z h))), r.lead);
        apart = ((λ z h. apart_one ys zs y (subst (Pairwise Apart) whole apart) z (r.from z h)), r.apart);
        from = λ z h. ⊎_elim (from_first z) (λ k. from_rest z (r.from z k)) (Contains-cons_cases y rest z h);
        to = λ z h. ⊎_elim (λ e. subst (Contains (y ∷ rest)) e (Contains-head y rest)) (λ k. Contains-tail y rest z (r.to z k)) (to_rest z h);
      }

      fair_rest : AreFair xs → AreFair (ys ++ zs)
      fair_rest fair = record { own = λ z h. fair.own z (from_rest z h); turn = λ z w h k. fair.turn z w (from_rest z h) (from_rest w k) }

    pub in_turn : (n : ℕ) (xs : List X) → length xs ≤ n → AreFair xs → Pairwise Apart xs → (zs : List X) × AreInTurn Apart xs zs
    in_turn n [] le fair apart = ([], record { lead = tt; apart = tt; from = λ z h. h; to = λ z h. h })
    in_turn zero (x ∷ xs) le fair apart = absurd (omega arith)
    in_turn (suc n) (x ∷ xs) le fair apart =
        let l = leader x xs fair in
        let s = cut_at (x ∷ xs) l.0 l.1 in
        let e : length (x ∷ xs) ≡ suc (length (s.0 ++ s.1)) = ap length s.2 ∙ shorter s.0 s.1 l.0 in
        let r = in_turn n (s.0 ++ s.1) (omega (arith, e)) (fair_rest (x ∷ xs) s.0 s.1 l.0 s.2 fair) (apart_rest s.0 s.1 l.0 (subst (Pairwise Apart) s.2 apart)) in
        (l.0 ∷ r.0, led (x ∷ xs) s.0 s.1 l.0 s.2 apart l.2 r.0 r.1)
