-- numbers, each once, where it stands first
use Rattle.std.proofs.Common.{◌≡◌, ◌≢◌, ℕ, Bool, true, false, not, cond, nat_eq, List, [], ◌∷◌, ◌++◌, refl, sym, ap, ◌∙◌, subst, ⊎_elim, arith}
use Rattle.std.specs.List.{filter, Contains}
use Rattle.std.proofs.lemmas.Bool.{cases_eq, eq-eqb, ne_eqb, false≢true}
use Rattle.std.proofs.lemmas.Bool.Decides.{nat_tests}
use Rattle.std.proofs.lemmas.Grind.{common_steps}
use Rattle.std.proofs.lemmas.List.{append-nil}
use Rattle.std.proofs.lemmas.List.Elements.{filter-append}
use Rattle.linspec.specs.Orders.{Pairwise}
use Rattle.linspec.proofs.Lists.{Contains-nil, Contains-head, Contains-tail, Contains-cons_cases}
use Rattle.linspec.proofs.Filters.{filter-yes, filter-no, filter-all, from_filter, to_filter, Pairwise-filter}
use Rattle.linspec.specs.JudgedHistory.{each_once}

-- the elements that pass both tests, in either order
pub filter-filter : {X : Type 0} (p q r : X → Bool) → ((x : X) → r x ≡ cond (p x) (q x) false) → (xs : List X) → filter p (filter q xs) ≡ filter r xs
filter-filter p q r is [] = refl
filter-filter p q r is (x ∷ xs) = grind (arith, is x, filter-filter p q r is xs)

pub filter-swap : {X : Type 0} (p q : X → Bool) (xs : List X) → filter p (filter q xs) ≡ filter q (filter p xs)
filter-swap p q [] = refl
filter-swap p q (x ∷ xs) = grind (arith, filter-swap p q xs)

-- other than k
abbrev is_other : ℕ → ℕ → Bool
is_other k j = not (nat_eq j k)

other : (k j : ℕ) → j ≢ k → is_other k j ≡ true
other k j ne = ap not (ne_eqb j k ne)

differs : (k j : ℕ) → is_other k j ≡ true → j ≢ k
differs k j h e = false≢true (sym (ap not (eq-eqb j k e)) ∙ h)

-- none of the numbers
abbrev pub is_new : List ℕ → ℕ → Bool
is_new [] k = true
is_new (x ∷ xs) k = cond (is_other x k) (is_new xs k) false

pub is_new-known : (xs : List ℕ) (k : ℕ) → Contains xs k → is_new xs k ≡ false
is_new-known [] k h = absurd (Contains-nil k h)
is_new-known (x ∷ xs) k h = grind (arith, nat_tests, common_steps, is_new-known xs k)

pub is_new-absent : (xs : List ℕ) (k : ℕ) → ¬ Contains xs k → is_new xs k ≡ true
is_new-absent [] k h = refl
is_new-absent (x ∷ xs) k h =
    ap (λ b. cond b (is_new xs k) false) (other x k (λ e. h (subst (Contains (x ∷ xs)) (sym e) (Contains-head x xs))))
    ∙ is_new-absent xs k (λ i. h (Contains-tail x xs k i))

pub is_new-lacks : (xs : List ℕ) (k : ℕ) → is_new xs k ≡ true → ¬ Contains xs k
is_new-lacks xs k h i = false≢true (sym (is_new-known xs k i) ∙ h)

-- of two lists: those of the first, and then those of the second that the first has not
pub each_once-append : (xs ys : List ℕ) → each_once (xs ++ ys) ≡ each_once xs ++ filter (is_new xs) (each_once ys)
each_once-append [] ys = sym (filter-all (λ _. true) (each_once ys) (λ x h. refl))
each_once-append (x ∷ xs) ys =
    ap (λ l. x ∷ l) (ap (filter (is_other x)) (each_once-append xs ys)
    ∙ filter-append (is_other x) (each_once xs) (filter (is_new xs) (each_once ys))
    ∙ ap (λ l. filter (is_other x) (each_once xs) ++ l) (filter-filter (is_other x) (is_new xs) (is_new (x ∷ xs)) (λ k. refl) (each_once ys)))

-- the same numbers
pub from_each_once : (ks : List ℕ) (k : ℕ) → Contains (each_once ks) k → Contains ks k
from_each_once [] k h = absurd (Contains-nil k h)
from_each_once (j ∷ ks) k h =
    ⊎_elim
    (λ e. subst (Contains (j ∷ ks)) e (Contains-head j ks))
    (λ i. Contains-tail j ks k (from_each_once ks k (from_filter (is_other j) (each_once ks) k i).0))
    (Contains-cons_cases j (filter (is_other j) (each_once ks)) k h)

pub to_each_once : (ks : List ℕ) (k : ℕ) → Contains ks k → Contains (each_once ks) k
to_each_once [] k h = absurd (Contains-nil k h)
to_each_once (j ∷ ks) k h =
    ⊎_elim
    (λ e. subst (Contains (each_once (j ∷ ks))) (sym e) (Contains-head j (filter (is_other j) (each_once ks))))
    (λ ne. Contains-tail j (filter (is_other j) (each_once ks)) k (to_filter (is_other j) (each_once ks) k (to_each_once ks k (rest ne)) (other j k ne)))
    (cases_eq k j)
  where
    rest : k ≢ j → Contains ks k
    rest ne = ⊎_elim (λ e. absurd (ne (sym e))) (λ i. i) (Contains-cons_cases j ks k h)

-- no two of them are equal
pub each_once-apart : (ks : List ℕ) → Pairwise (λ i j. i ≢ j) (each_once ks)
each_once-apart [] = tt
each_once-apart (k ∷ ks) = (
  λ j h e. differs k j (from_filter (is_other k) (each_once ks) j h).1 (sym e),
  Pairwise-filter (is_other k) (λ i j. i ≢ j) (each_once ks) (each_once-apart ks),
)

-- with one more number, which is there already, or is the last
pub each_once-push_known : (ks : List ℕ) (k : ℕ) → Contains ks k → each_once (ks ++ k ∷ []) ≡ each_once ks
each_once-push_known ks k h = each_once-append ks (k ∷ []) ∙ ap (λ l. each_once ks ++ l) (filter-no (is_new ks) k [] (is_new-known ks k h)) ∙ append-nil (each_once ks)

pub each_once-push_new : (ks : List ℕ) (k : ℕ) → ¬ Contains ks k → each_once (ks ++ k ∷ []) ≡ each_once ks ++ k ∷ []
each_once-push_new ks k h = each_once-append ks (k ∷ []) ∙ ap (λ l. each_once ks ++ l) (filter-yes (is_new ks) k [] (is_new-absent ks k h))
