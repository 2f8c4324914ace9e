-- multisets: one more of a value, one less, and the set of the values
use Rattle.std.proofs.Common.{◌≡◌, ◌≢◌, ◌↔◌, ℕ, zero, suc, ◌<◌, ◌≤◌, ℤ, ◌<ℤ◌, ◌≤ℤ◌, int_lt, ◌⊎◌, inl, inr, ⊎_elim, true, false, cond, List, [], ◌∷◌, length, get_or, insert, remove, refl, sym, ap, ◌∙◌, subst, arith}
use Rattle.std.specs.Ordering.{int_eq}
use Rattle.std.specs.List.{Contains}
use Rattle.std.proofs.lemmas.Bool.{cases_Bool}
use Rattle.std.proofs.lemmas.Bool.Decides.{Decides-int_eq}
use Rattle.std.proofs.lemmas.Int.{ints, by_lt_z}
use Rattle.values.specs.Members.{IsAscending}
use Rattle.values.specs.Multisets.{NeverFalls, with_one, without_one, values_of}
use Rattle.values.proofs.PutIn.{no_member, first_member, later_member, member_cases, is_below, is_lower, Contains-put_in, IsAscending-put_in}

lower_or : (a b : ℤ) → int_lt a b ≡ false → b ≤ℤ a
lower_or a b e = by_lt_z a b (λ h. let t : int_lt a b ≡ true = is_lower a b h in cc) (λ h. h)

not_lower_than : (a b : ℤ) → b ≤ℤ a → int_lt a b ≡ false
not_lower_than a b h = ⊎_elim (λ e. let l : a <ℤ b = is_below a b e in absurd (omega (arith, ints))) (λ e. e) (cases_Bool (int_lt a b))

-- one more of a value, by its two cases
pub with_one-later : (v x : ℤ) (xs : List ℤ) → int_lt x v ≡ true → with_one v (x ∷ xs) ≡ x ∷ with_one v xs
with_one-later v x xs e = ap (λ b. cond b (x ∷ with_one v xs) (v ∷ x ∷ xs)) e

pub with_one-here : (v x : ℤ) (xs : List ℤ) → int_lt x v ≡ false → with_one v (x ∷ xs) ≡ v ∷ x ∷ xs
with_one-here v x xs e = ap (λ b. cond b (x ∷ with_one v xs) (v ∷ x ∷ xs)) e

-- it is put where those below it end
pub insert-with_one : (v : ℤ) (xs : List ℤ) (at : ℕ) → at ≤ length xs → ((k : ℕ) (d : ℤ) → k < at → get_or xs k d <ℤ v)
    → ((d : ℤ) → at < length xs → v ≤ℤ get_or xs at d) → insert xs at v ≡ with_one v xs
insert-with_one v [] zero fits below above = refl
insert-with_one v [] (suc at) fits below above = absurd (omega arith)
insert-with_one v (x ∷ xs) zero fits below above = sym (with_one-here v x xs (not_lower_than x v (above v (omega arith))))
insert-with_one v (x ∷ xs) (suc at) fits below above =
    ap (λ t. x ∷ t) (insert-with_one v xs at (omega arith) (λ k d h. below (suc k) d (omega arith)) (λ d h. above d (omega arith)))
    ∙ sym (with_one-later v x xs (is_lower x v (below 0 v (omega arith))))

from_with_one : (v : ℤ) (xs : List ℤ) (y : ℤ) → Contains (with_one v xs) y → (y ≡ v) ⊎ Contains xs y
from_with_one v [] y h = ⊎_elim (λ e. inl (sym e)) (λ n. absurd (no_member y n)) (member_cases v [] y h)
from_with_one v (x ∷ xs) y h =
    ⊎_elim
    (λ e. ⊎_elim
    (λ q. inr (subst (Contains (x ∷ xs)) q (first_member x xs)))
    (λ k. ⊎_elim inl (λ j. inr (later_member x xs y j)) (from_with_one v xs y k))
    (member_cases x (with_one v xs) y (subst (λ l. Contains l y) (with_one-later v x xs e) h)))
    (λ e. ⊎_elim (λ q. inl (sym q)) inr (member_cases v (x ∷ xs) y (subst (λ l. Contains l y) (with_one-here v x xs e) h)))
    (cases_Bool (int_lt x v))

pub NeverFalls-with_one : (v : ℤ) (xs : List ℤ) → NeverFalls xs → NeverFalls (with_one v xs)
NeverFalls-with_one v [] is = ((λ y h. absurd (no_member y h)), tt)
NeverFalls-with_one v (x ∷ xs) is =
    ⊎_elim
    (λ e. subst NeverFalls (sym (with_one-later v x xs e)) (
      (λ y h. ⊎_elim (λ q. let l : x <ℤ v = is_below x v e in let m : x ≤ℤ v = omega (arith, ints) in subst (λ z. x ≤ℤ z) (sym q) m) (is.0 y) (from_with_one v xs y h)),
      NeverFalls-with_one v xs is.1,
    ))
    (λ e. subst NeverFalls (sym (with_one-here v x xs e)) (
      (λ y h. let l : v ≤ℤ x = lower_or x v e in ⊎_elim (λ q. subst (λ z. v ≤ℤ z) q l) (λ k. let m : x ≤ℤ y = is.0 y k in omega (arith, ints)) (member_cases x xs y h)),
      is,
    ))
    (cases_Bool (int_lt x v))

-- one less
from_remove : (xs : List ℤ) (i : ℕ) (y : ℤ) → Contains (remove xs i) y → Contains xs y
from_remove [] zero y h = absurd (no_member y h)
from_remove [] (suc i) y h = absurd (no_member y h)
from_remove (x ∷ xs) zero y h = later_member x xs y h
from_remove (x ∷ xs) (suc i) y h = ⊎_elim (λ e. subst (Contains (x ∷ xs)) e (first_member x xs)) (λ k. later_member x xs y (from_remove xs i y k)) (member_cases x (remove xs i) y h)

pub NeverFalls-remove : (xs : List ℤ) (i : ℕ) → NeverFalls xs → NeverFalls (remove xs i)
NeverFalls-remove [] zero is = is
NeverFalls-remove [] (suc i) is = is
NeverFalls-remove (x ∷ xs) zero is = is.1
NeverFalls-remove (x ∷ xs) (suc i) is = ((λ y h. is.0 y (from_remove xs i y h)), NeverFalls-remove xs i is.1)

pub without_one-here : (v x : ℤ) (xs : List ℤ) → int_eq x v ≡ true → without_one v (x ∷ xs) ≡ xs
without_one-here v x xs e = ap (λ b. cond b xs (x ∷ without_one v xs)) e

pub without_one-later : (v x : ℤ) (xs : List ℤ) → int_eq x v ≡ false → without_one v (x ∷ xs) ≡ x ∷ without_one v xs
without_one-later v x xs e = ap (λ b. cond b xs (x ∷ without_one v xs)) e

pub same_int : (x v : ℤ) → x ≡ v → int_eq x v ≡ true
same_int x v e = (Decides-int_eq x v).1 e

pub other_int : (x v : ℤ) → x ≢ v → int_eq x v ≡ false
other_int x v d = ⊎_elim (λ e. absurd (d ((Decides-int_eq x v).0 e))) (λ e. e) (cases_Bool (int_eq x v))

-- the first of a value is taken out
pub without_one-place : (v : ℤ) (xs : List ℤ) (at : ℕ) → at < length xs → get_or xs at v ≡ v → ((k : ℕ) → k < at → get_or xs k v ≢ v) → without_one v xs ≡ remove xs at
without_one-place v [] at fits is before = absurd (omega arith)
without_one-place v (x ∷ xs) zero fits is before = without_one-here v x xs (same_int x v is)
without_one-place v (x ∷ xs) (suc at) fits is before =
    without_one-later v x xs (other_int x v (before 0 (omega arith))) ∙ ap (λ l. x ∷ l) (without_one-place v xs at (omega arith) is (λ k h. before (suc k) (omega arith)))

-- the set of the values
pub Contains-values_of : (xs : List ℤ) (y : ℤ) → Contains (values_of xs) y ↔ Contains xs y
Contains-values_of [] y = ((λ h. h), (λ h. h))
Contains-values_of (x ∷ xs) y = (
  (λ h. ⊎_elim (λ e. subst (Contains (x ∷ xs)) (sym e) (first_member x xs)) (λ k. later_member x xs y ((Contains-values_of xs y).0 k)) ((Contains-put_in x (values_of xs) y).0 h)),
  (λ h. (Contains-put_in x (values_of xs) y).1 (⊎_elim (λ e. inl (sym e)) (λ k. inr ((Contains-values_of xs y).1 k)) (member_cases x xs y h))),
)

pub IsAscending-values_of : (xs : List ℤ) → IsAscending (values_of xs)
IsAscending-values_of [] = tt
IsAscending-values_of (x ∷ xs) = IsAscending-put_in x (values_of xs) (IsAscending-values_of xs)
