-- the rows that an effect makes of a row, as they are put one after the other
use Rattle.std.proofs.Common.{◌≡◌, ℕ, ◌+◌, ◌<◌, ◌≤◌, ℤ, ⊎_elim, List, [], ◌∷◌, ◌++◌, length, take, get_or, sym, subst}
use Rattle.std.specs.List.{Contains}
use Rattle.std.proofs.lemmas.List.{take_all, take_more}
use Rattle.std.proofs.lemmas.List.Elements.{Contains-append_left, Contains-push, Contains-push_cases}
use Rattle.linspec.proofs.Lists.{Contains-nil, Contains-head, Contains-cons_cases}
use Rattle.wide_cas_register.specs.declared.calls.Call.{Call}
use Rattle.wide_cas_register.specs.declared.row.Row.{Row}
use Rattle.wide_cas_register.specs.Facts.{AllFoundWith, IsFoundWith, IsFree, IsPutBefore}

-- a row alone
module _ (P : Row → Type 0) (made : List Row) (r : Row) (e : made ≡ r ∷ []) (is : P r) where
  pub each_alone : (new : Row) → Contains made new → P new
  each_alone new h = ⊎_elim (λ q. subst P q is) (λ k. absurd (Contains-nil new k)) (Contains-cons_cases r [] new (subst (λ l. Contains l new) e h))

  pub has_alone : (new : Row) × P new × Contains made new
  has_alone = (r, is, subst (λ l. Contains l r) (sym e) (Contains-head r []))

-- a write takes place just before the last one, where the read finds it, after n operations were tried
module _ (calls : List Call) (row : Row) (read : Call) (v : ℤ) where
  abbrev pub EachTried : ℕ → List Row → Type 0
  EachTried i made = (new : Row) → Contains made new → IsFoundWith calls (take i calls) row read v new

  abbrev pub AllTried : ℕ → List Row → Type 0
  AllTried i made = AllFoundWith calls (take i calls) row read v made

  module _ (i : ℕ) (h : length calls ≤ i) (made : List Row) where
    pub whole_each : EachTried i made → (new : Row) → Contains made new → IsFoundWith calls calls row read v new
    whole_each m = subst (λ l. (new : Row) → Contains made new → IsFoundWith calls l row read v new) (take_all i calls h) m

    pub whole_all : AllTried i made → AllFoundWith calls calls row read v made
    whole_all m = subst (λ l. AllFoundWith calls l row read v made) (take_all i calls h) m

  module _ (i : ℕ) (d : Call) (h : i < length calls) (made : List Row) (each : EachTried i made) (all : AllTried i made) where
    abbrev c : Call
    c = get_or calls i d

    here : Contains (take (i + 1) calls) c
    here = subst (λ l. Contains l c) (sym (take_more calls i d h)) (Contains-push (take i calls) c)

    wider : (new : Row) → IsFoundWith calls (take i calls) row read v new → IsFoundWith calls (take (i + 1) calls) row read v new
    wider new f = (f.0, subst (λ l. Contains l f.0) (sym (take_more calls i d h)) (Contains-append_left (take i calls) (c ∷ []) f.0 f.1), f.2, f.3)

    pub passed_each : EachTried (i + 1) made
    passed_each r k = wider r (each r k)

    pub passed_all : ¬ IsFree row v c → AllTried (i + 1) made
    passed_all n x k f = ⊎_elim
        (λ j. all x j f)
        (λ e. absurd (n (subst (IsFree row v) (sym e) f)))
        (Contains-push_cases (take i calls) c x (subst (λ l. Contains l x) (take_more calls i d h) k))

    module _ (r : Row) (next : List Row) (e : next ≡ made ++ r ∷ []) (free : IsFree row v c) (put : IsPutBefore calls c v read.id row r) where
      pub tried_each : EachTried (i + 1) next
      tried_each x k = ⊎_elim
          (λ j. wider x (each x j))
          (λ q. subst (IsFoundWith calls (take (i + 1) calls) row read v) q (c, here, free, put))
          (Contains-push_cases made r x (subst (λ l. Contains l x) e k))

      pub tried_all : AllTried (i + 1) next
      tried_all x k f = ⊎_elim
          (λ j. (let a = all x j f in (a.0, a.1, subst (λ l. Contains l a.0) (sym e) (Contains-append_left made (r ∷ []) a.0 a.2))))
          (λ q. (r, subst (λ y. IsPutBefore calls y v read.id row r) q put, subst (λ l. Contains l r) (sym e) (Contains-push made r)))
          (Contains-push_cases (take i calls) c x (subst (λ l. Contains l x) (take_more calls i d h) k))
