-- lists that grow, with a fact about their elements
use Rattle.std.proofs.Common.{◌≡◌, ◌≢◌, ℕ, ◌+◌, ◌<◌, ◌≤◌, ◌⊎◌, inl, inr, ⊎_elim, List, [], ◌∷◌, ◌++◌, length, get_or, take, drop, refl, sym, ap, ◌∙◌, subst, arith, append_assoc}
use Rattle.std.specs.List.{Contains}
use Rattle.std.proofs.lemmas.List.{append-nil, length-take-le, drop-append-le}
use Rattle.std.proofs.lemmas.List.Elements.{Contains-append_left, Contains-push, Contains-push_cases}
use Rattle.events.specs.Events.{IsPrefixOf}
use Rattle.linspec.proofs.Lists.{Contains-nil, Contains-cons_cases, Pairwise-append}
use Rattle.interner.proofs.Lists.{one_more}
use Rattle.moves.specs.EndSteps.{Along, Adds}

-- fronts
pub IsPrefixOf-itself : {X : Type 0} (xs : List X) → IsPrefixOf xs xs
IsPrefixOf-itself xs = ([], append-nil xs)

pub IsPrefixOf-push : {X : Type 0} (xs : List X) (x : X) → IsPrefixOf xs (xs ++ x ∷ [])
IsPrefixOf-push xs x = (x ∷ [], refl)

pub IsPrefixOf-trans : {X : Type 0} (xs ys zs : List X) → IsPrefixOf xs ys → IsPrefixOf ys zs → IsPrefixOf xs zs
IsPrefixOf-trans xs ys zs f g = (f.0 ++ g.0, sym (append_assoc xs f.0 g.0) ∙ ap (λ l. l ++ g.0) f.1 ∙ g.1)

-- facts about a list with one more element
pub Along-push : {C Y : Type 0} (R : C → Y → Type 0) (cs : List C) (c : C) (y : Y) → Along R (cs ++ c ∷ []) y → Along R cs y ⊎ R c y
Along-push R cs c y h =
    ⊎_elim
    (λ k. inl (h.0, k, h.2))
    (λ e. inr (subst (λ d. R d y) (sym e) h.2))
    (Contains-push_cases cs c h.0 h.1)

pub Along-push_old : {C Y : Type 0} (R : C → Y → Type 0) (cs : List C) (c : C) (y : Y) → Along R cs y → Along R (cs ++ c ∷ []) y
Along-push_old R cs c y h = (h.0, Contains-append_left cs (c ∷ []) h.0 h.1, h.2)

pub Along-push_new : {C Y : Type 0} (R : C → Y → Type 0) (cs : List C) (c : C) (y : Y) → R c y → Along R (cs ++ c ∷ []) y
Along-push_new R cs c y h = (c, Contains-push cs c, h)

module _ {Y : Type 0} where
  pub Adds-none : (P : Y → Type 0) (xs : List Y) → ((y : Y) → ¬ P y) → Adds P xs xs
  Adds-none P xs none = record { each = λ y. ((λ h. inl h), (λ h. ⊎_elim (λ k. k) (λ p. absurd (none y p)) h)); once = λ h. h }

  pub Adds-change : (P Q : Y → Type 0) (xs ys : List Y) → ((y : Y) → P y → Q y) → ((y : Y) → Q y → P y) → Adds P xs ys → Adds Q xs ys
  Adds-change P Q xs ys to from adds = record {
    each = λ y. (
      (λ h. ⊎_elim (λ k. inl k) (λ p. inr (to y p)) ((adds.each y).0 h)),
      (λ h. (adds.each y).1 (⊎_elim (λ k. inl k) (λ q. inr (from y q)) h)),
    );
    once = adds.once;
  }

  pub Adds-then : (P Q : Y → Type 0) (xs ys zs : List Y) → Adds P xs ys → Adds Q ys zs → Adds (λ y. P y ⊎ Q y) xs zs
  Adds-then P Q xs ys zs a b = record {
    each = λ y. (
      (λ h. ⊎_elim (λ k. ⊎_elim (λ i. inl i) (λ p. inr (inl p)) ((a.each y).0 k)) (λ q. inr (inr q)) ((b.each y).0 h)),
      (λ h. (b.each y).1 (⊎_elim
          (λ k. inl ((a.each y).1 (inl k)))
          (λ r. ⊎_elim (λ p. inl ((a.each y).1 (inr p))) (λ q. inr q) r)
          h)),
    );
    once = λ h. b.once (a.once h);
  }

  -- one element more, which was not there, or was there
  pub Adds-new : (xs : List Y) (x : Y) → ¬ Contains xs x → Adds (λ y. x ≡ y) xs (xs ++ x ∷ [])
  Adds-new xs x not_in = record {
    each = λ y. (
      (λ h. Contains-push_cases xs x y h),
      (λ h. ⊎_elim (λ k. Contains-append_left xs (x ∷ []) y k) (λ e. subst (Contains (xs ++ x ∷ [])) e (Contains-push xs x)) h),
    );
    once = λ h. Pairwise-append (λ a b. a ≢ b) xs (x ∷ []) h ((λ y k. absurd (Contains-nil y k)), tt)
        (λ a b i j e. not_in (subst (Contains xs) (e ∙ ⊎_elim sym (λ k. absurd (Contains-nil b k)) (Contains-cons_cases x [] b j)) i));
  }

  pub Adds-old : (xs : List Y) (x : Y) → Contains xs x → Adds (λ y. x ≡ y) xs xs
  Adds-old xs x in' = record {
    each = λ y. ((λ h. inl h), (λ h. ⊎_elim (λ k. k) (λ e. subst (Contains xs) e in') h));
    once = λ h. h;
  }

module _ {C Y : Type 0} (R : C → Y → Type 0) (cs : List C) (xs ys zs : List Y) where
  pub Adds-step : (c : C) → Adds (Along R cs) xs ys → Adds (R c) ys zs → Adds (Along R (cs ++ c ∷ [])) xs zs
  Adds-step c a b =
      Adds-change (λ y. Along R cs y ⊎ R c y) (Along R (cs ++ c ∷ [])) xs zs
      (λ y h. ⊎_elim (Along-push_old R cs c y) (Along-push_new R cs c y) h)
      (λ y h. Along-push R cs c y h)
      (Adds-then (Along R cs) (R c) xs ys zs a b)

-- at a place of a list that is gone through
module _ {C Y : Type 0} (R : C → Y → Type 0) (cs : List C) (xs ys zs : List Y) where
  pub Adds-more : (i : ℕ) (c : C) → i < length cs → c ≡ get_or cs i c → Adds (Along R (take i cs)) xs ys → Adds (R c) ys zs → Adds (Along R (take (i + 1) cs)) xs zs
  Adds-more i c l is a b = subst (λ ds. Adds (Along R ds) xs zs) (sym (one_more cs i c l is)) (Adds-step R (take i cs) xs ys zs c a b)

  pub Adds-more_from : (from i : ℕ) (c : C) → from ≤ i → i < length cs → c ≡ get_or cs i c → Adds (Along R (drop from (take i cs))) xs ys → Adds (R c) ys zs
      → Adds (Along R (drop from (take (i + 1) cs))) xs zs
  Adds-more_from from i c low l is a b =
      let long : length (take i cs) ≡ i = length-take-le i cs (omega arith) in
      let cut : drop from (take i cs ++ c ∷ []) ≡ drop from (take i cs) ++ c ∷ [] = drop-append-le from (take i cs) (c ∷ []) (omega arith) in
      subst (λ ds. Adds (Along R (drop from ds)) xs zs) (sym (one_more cs i c l is))
      (subst (λ ds. Adds (Along R ds) xs zs) (sym cut) (Adds-step R (drop from (take i cs)) xs ys zs c a b))

module _ {C Y : Type 0} (R : C → Y → Type 0) (cs : List C) (xs ys : List Y) where
  pub Adds-skip : (i : ℕ) (c : C) → i < length cs → c ≡ get_or cs i c → Adds (Along R (take i cs)) xs ys → ((y : Y) → ¬ R c y) → Adds (Along R (take (i + 1) cs)) xs ys
  Adds-skip i c l is a none = Adds-more R cs xs ys ys i c l is a (Adds-none (R c) ys none)

-- before the first
pub Adds-start : {C Y : Type 0} (R : C → Y → Type 0) (xs : List Y) → Adds (Along R []) xs xs
Adds-start R xs = Adds-none (Along R []) xs (λ y h. Contains-nil h.0 h.1)
