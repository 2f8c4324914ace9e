-- a set with a member put in
use Rattle.std.proofs.Common.{◌≡◌, ◌↔◌, ℤ, ◌<ℤ◌, ◌⊎◌, inl, inr, ⊎_elim, true, false, cond, List, [], ◌∷◌, sym, ap, ◌∙◌, subst, arith}
use Rattle.std.specs.Prelude.{ℕ, zero, suc, ◌<◌, ◌≤◌, int_lt, length, refl, Ok, Err}
use Rattle.std.specs.Ordering.{int_cmp, is_lt, MatchOrdering}
use Rattle.std.specs.List.{Contains, insert}
use Rattle.std.specs.List.Sorted.{IsSortedBy, IsBinarySearchResult}
use Rattle.std.specs.declared.cmp.Ordering.{Ordering}
use Rattle.std.proofs.Common.{get_or, add-one}
use Rattle.std.proofs.lemmas.Bool.{cases_Bool}
use Rattle.std.proofs.lemmas.Int.{ints}
use Rattle.std.proofs.lemmas.List.Sorted.{searchable_from_sorted}
use Rattle.std.proofs.lemmas.Cmp.{int_ranked, int_cmp_total}
use Rattle.std.specs.declared.cmp.Ordering.TheVariants.{Less, Equal, Greater}
use Rattle.std.proofs.lemmas.List.Elements.{Contains-get_or, Contains-append_left, Contains-append_right, Contains-push, Contains-push_cases, Contains-append_cases}
use Rattle.values.specs.Members.{IsAscending, put_in}

pub no_member : {X : Type 0} (y : X) → Contains [] y → ⊥
no_member y h = omega arith

pub first_member : {X : Type 0} (x : X) (xs : List X) → Contains (x ∷ xs) x
first_member x xs = Contains-append_left (x ∷ []) xs x (Contains-push [] x)

pub later_member : {X : Type 0} (x : X) (xs : List X) (y : X) → Contains xs y → Contains (x ∷ xs) y
later_member x xs y h = Contains-append_right (x ∷ []) xs y h

pub member_cases : {X : Type 0} (x : X) (xs : List X) (y : X) → Contains (x ∷ xs) y → (x ≡ y) ⊎ Contains xs y
member_cases x xs y h = ⊎_elim (λ k. inl (⊎_elim (λ n. absurd (no_member y n)) (λ e. e) (Contains-push_cases [] x y k))) inr (Contains-append_cases (x ∷ []) xs y h)

pub is_below : (a b : ℤ) → int_lt a b ≡ true → a <ℤ b
is_below a b e = int_ranked a b Less (sym (ap (λ t. cond t Less (cond (int_lt b a) Greater Equal)) e))

pub is_same : (a b : ℤ) → int_lt a b ≡ false → int_lt b a ≡ false → a ≡ b
is_same a b e f = int_ranked a b Equal (sym (ap (λ t. cond t Less (cond (int_lt b a) Greater Equal)) e ∙ ap (λ t. cond t Greater Equal) f))

pub below_all : (a b c : ℤ) → a <ℤ b → b <ℤ c → a <ℤ c
below_all a b c h k = omega (arith, ints)

pub not_below : (a : ℤ) → a <ℤ a → ⊥
not_below a h = omega (arith, ints)

pub is_lower : (a b : ℤ) → a <ℤ b → int_lt a b ≡ true
is_lower a b h =
    ⊎_elim
    (λ e. e)
    (λ e. ⊎_elim (λ f. absurd (not_below a (below_all a b a h (is_below b a f)))) (λ f. absurd (not_below b (subst (λ z. z <ℤ b) (is_same a b e f) h))) (cases_Bool (int_lt b a)))
    (cases_Bool (int_lt a b))

pub not_lower : (a b : ℤ) → b <ℤ a → int_lt a b ≡ false
not_lower a b h = ⊎_elim (λ e. absurd (not_below b (below_all b a b h (is_below a b e)))) (λ e. e) (cases_Bool (int_lt a b))

-- put_in by its three cases
pub put_in-first : (v x : ℤ) (xs : List ℤ) → int_lt v x ≡ true → put_in v (x ∷ xs) ≡ v ∷ x ∷ xs
put_in-first v x xs e = ap (λ b. cond b (v ∷ x ∷ xs) (cond (int_lt x v) (x ∷ put_in v xs) (x ∷ xs))) e

pub put_in-later : (v x : ℤ) (xs : List ℤ) → int_lt v x ≡ false → int_lt x v ≡ true → put_in v (x ∷ xs) ≡ x ∷ put_in v xs
put_in-later v x xs e f = ap (λ b. cond b (v ∷ x ∷ xs) (cond (int_lt x v) (x ∷ put_in v xs) (x ∷ xs))) e ∙ ap (λ b. cond b (x ∷ put_in v xs) (x ∷ xs)) f

pub put_in-there : (v x : ℤ) (xs : List ℤ) → int_lt v x ≡ false → int_lt x v ≡ false → put_in v (x ∷ xs) ≡ x ∷ xs
put_in-there v x xs e f = ap (λ b. cond b (v ∷ x ∷ xs) (cond (int_lt x v) (x ∷ put_in v xs) (x ∷ xs))) e ∙ ap (λ b. cond b (x ∷ put_in v xs) (x ∷ xs)) f

-- the members are v and those before
from_put_in : (v : ℤ) (xs : List ℤ) (y : ℤ) → Contains (put_in v xs) y → (y ≡ v) ⊎ Contains xs y
from_put_in v [] y h = ⊎_elim (λ e. inl (sym e)) (λ n. absurd (no_member y n)) (member_cases v [] y h)
from_put_in v (x ∷ xs) y h =
    ⊎_elim
    (λ e. ⊎_elim (λ q. inl (sym q)) inr (member_cases v (x ∷ xs) y (subst (λ l. Contains l y) (put_in-first v x xs e) h)))
    (λ e. ⊎_elim
    (λ f. ⊎_elim
    (λ q. inr (subst (Contains (x ∷ xs)) q (first_member x xs)))
    (λ k. ⊎_elim inl (λ j. inr (later_member x xs y j)) (from_put_in v xs y k))
    (member_cases x (put_in v xs) y (subst (λ l. Contains l y) (put_in-later v x xs e f) h)))
    (λ f. inr (subst (λ l. Contains l y) (put_in-there v x xs e f) h))
    (cases_Bool (int_lt x v)))
    (cases_Bool (int_lt v x))

to_put_in : (v : ℤ) (xs : List ℤ) (y : ℤ) → (y ≡ v) ⊎ Contains xs y → Contains (put_in v xs) y
to_put_in v [] y h = ⊎_elim (λ e. subst (Contains (v ∷ [])) (sym e) (first_member v [])) (λ n. absurd (no_member y n)) h
to_put_in v (x ∷ xs) y h =
    ⊎_elim
    (λ e. subst (λ l. Contains l y) (sym (put_in-first v x xs e)) (⊎_elim (λ q. subst (Contains (v ∷ x ∷ xs)) (sym q) (first_member v (x ∷ xs))) (later_member v (x ∷ xs) y) h))
    (λ e. ⊎_elim
    (λ f. subst (λ l. Contains l y) (sym (put_in-later v x xs e f))
    (⊎_elim
    (λ q. later_member x (put_in v xs) y (to_put_in v xs y (inl q)))
    (λ k. ⊎_elim (λ q. subst (Contains (x ∷ put_in v xs)) q (first_member x (put_in v xs))) (λ j. later_member x (put_in v xs) y (to_put_in v xs y (inr j))) (member_cases x xs y k))
    h))
    (λ f. subst (λ l. Contains l y) (sym (put_in-there v x xs e f)) (⊎_elim (λ q. subst (Contains (x ∷ xs)) (sym (is_same v x e f) ∙ sym q) (first_member x xs)) (λ k. k) h))
    (cases_Bool (int_lt x v)))
    (cases_Bool (int_lt v x))

pub Contains-put_in : (v : ℤ) (xs : List ℤ) (y : ℤ) → Contains (put_in v xs) y ↔ ((y ≡ v) ⊎ Contains xs y)
Contains-put_in v xs y = (from_put_in v xs y, to_put_in v xs y)

-- and it stays ascending
pub IsAscending-put_in : (v : ℤ) (xs : List ℤ) → IsAscending xs → IsAscending (put_in v xs)
IsAscending-put_in v [] is = ((λ y h. absurd (no_member y h)), tt)
IsAscending-put_in v (x ∷ xs) is =
    ⊎_elim
    (λ e. subst IsAscending (sym (put_in-first v x xs e)) (
      (λ y h. ⊎_elim (λ q. subst (λ z. v <ℤ z) q (is_below v x e)) (λ k. below_all v x y (is_below v x e) (is.0 y k)) (member_cases x xs y h)),
      is,
    ))
    (λ e. ⊎_elim
    (λ f. subst IsAscending (sym (put_in-later v x xs e f)) (
      (λ y h. ⊎_elim (λ q. subst (λ z. x <ℤ z) (sym q) (is_below x v f)) (is.0 y) (from_put_in v xs y h)),
      IsAscending-put_in v xs is.1,
    ))
    (λ f. subst IsAscending (sym (put_in-there v x xs e f)) is)
    (cases_Bool (int_lt x v)))
    (cases_Bool (int_lt v x))

-- a member that is there is not put in a second time
pub put_in-member : (v : ℤ) (xs : List ℤ) → IsAscending xs → Contains xs v → put_in v xs ≡ xs
put_in-member v [] is h = absurd (no_member v h)
put_in-member v (x ∷ xs) is h =
    ⊎_elim
    (λ e. let l : v <ℤ x = is_below v x e in
    ⊎_elim (λ q. absurd (not_below v (subst (λ z. v <ℤ z) q l))) (λ k. absurd (not_below v (below_all v x v l (is.0 v k)))) (member_cases x xs v h))
    (λ e. ⊎_elim
    (λ f. let l : x <ℤ v = is_below x v f in
    ⊎_elim (λ q. absurd (not_below v (subst (λ z. z <ℤ v) q l))) (λ k. put_in-later v x xs e f ∙ ap (λ t. x ∷ t) (put_in-member v xs is.1 k)) (member_cases x xs v h))
    (λ f. put_in-there v x xs e f)
    (cases_Bool (int_lt x v)))
    (cases_Bool (int_lt v x))

-- any other is put where those below it end
pub put_in-place : (v : ℤ) (xs : List ℤ) (at : ℕ) → at ≤ length xs → ((k : ℕ) (d : ℤ) → k < at → get_or xs k d <ℤ v)
    → ((k : ℕ) (d : ℤ) → at ≤ k → k < length xs → v <ℤ get_or xs k d) → insert xs at v ≡ put_in v xs
put_in-place v [] zero fits below above = refl
put_in-place v [] (suc at) fits below above = absurd (omega arith)
put_in-place v (x ∷ xs) zero fits below above =
    sym (put_in-first v x xs (is_lower v x (above 0 v (omega arith) (omega arith))))
put_in-place v (x ∷ xs) (suc at) fits below above =
    let l : x <ℤ v = below 0 v (omega arith) in
    ap (λ t. x ∷ t) (put_in-place v xs at (omega arith) (λ k d h. below (suc k) d (omega arith)) (λ k d g h. above (suc k) d (omega arith) (omega arith)))
    ∙ sym (put_in-later v x xs (not_lower v x l) (is_lower x v l))

-- an ascending list is sorted, as a binary search asks
above_is_not_below : (x y : ℤ) (r : Ordering) → MatchOrdering r (y <ℤ x) (y ≡ x) (x <ℤ y) → x <ℤ y → is_lt r ≡ false
above_is_not_below x y Less h l = absurd (not_below x (below_all x y x l h))
above_is_not_below x y Equal h l = refl
above_is_not_below x y Greater h l = refl

sorted_at : (xs : List ℤ) → IsAscending xs → (k : ℕ) (d : ℤ) → suc k < length xs → is_lt (int_cmp (get_or xs (suc k) d) (get_or xs k d)) ≡ false
sorted_at [] is k d h = absurd (omega arith)
sorted_at (x ∷ xs) is zero d h =
    let y = get_or xs 0 d in
    above_is_not_below x y (int_cmp y x) (int_ranked y x (int_cmp y x) refl) (is.0 y (Contains-get_or xs 0 d (omega arith)))
sorted_at (x ∷ xs) is (suc k) d h = sorted_at xs is.1 k d (omega arith)

pub IsSorted-ascending : (xs : List ℤ) → IsAscending xs → IsSortedBy (λ x y. is_lt (int_cmp x y)) xs
IsSorted-ascending xs is k d low high = rw add-one (sorted_at xs is k d (omega arith))

-- the result of a binary search for v in an ascending list
pub put_in-found : (v : ℤ) (xs : List ℤ) (i : ℕ) → IsAscending xs → i < length xs → IsBinarySearchResult (λ y. int_cmp y v) xs (Ok i) → put_in v xs ≡ xs
put_in-found v xs i is fits found = put_in-member v xs is (i, fits, int_ranked (get_or xs i v) v Equal (sym (found v)))

pub put_in-not_found : (v : ℤ) (xs : List ℤ) (i : ℕ) → IsAscending xs → i ≤ length xs → IsBinarySearchResult (λ y. int_cmp y v) xs (Err i) → insert xs i v ≡ put_in v xs
put_in-not_found v xs i is fits found =
    let parted = found (searchable_from_sorted int_cmp_total (λ x. x) xs v (IsSorted-ascending xs is)) in
    put_in-place v xs i fits
    (λ k d l. int_ranked (get_or xs k d) v Less (sym (parted.0 k d (omega arith) l)))
    (λ k d g l. int_ranked (get_or xs k d) v Greater (sym (parted.1 k d g l)))
