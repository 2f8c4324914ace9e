-- integers that were sorted, and of which neighbours that are equal were made one
use Rattle.std.proofs.Common.{◌≡◌, ◌↔◌, ℤ, ◌<ℤ◌, ⊎_elim, List, [], ◌∷◌, refl, sym, ap, ◌∙◌, subst}
use Rattle.std.specs.Ordering.{int_cmp, int_eq}
use Rattle.std.specs.List.{Contains, AllByRecursion, dedup}
use Rattle.std.specs.List.Sorted.{IsPermutation, IsSorted, IsStrictlySortedBy}
use Rattle.std.specs.List.Retain.{IsFiltered, DiffersFromLast}
use Rattle.std.specs.declared.cmp.Ordering.TheVariants.{Less}
use Rattle.std.proofs.lemmas.Bool.Decides.{Decides-int_eq}
use Rattle.std.proofs.lemmas.Cmp.{int_ranked, int_cmp_total, int_eq_equiv}
use Rattle.std.proofs.lemmas.List.Filters.{dedup_is}
use Rattle.std.proofs.lemmas.List.Kept.{Contains-dedup, Contains-from_dedup, IsStrictlySortedBy-dedup}
use Rattle.std.proofs.lemmas.List.Sorted.{Contains-permutation, IsPermutation-sym}
use Rattle.values.specs.Members.{IsAscending}
use Rattle.values.proofs.PutIn.{no_member, first_member, later_member, member_cases, below_all, not_below}

below_each : (x : ℤ) (xs : List ℤ) → AllByRecursion (λ y. int_cmp x y ≡ Less) xs → (y : ℤ) → Contains xs y → x <ℤ y
below_each x [] h y k = absurd (no_member y k)
below_each x (z ∷ zs) h y k = ⊎_elim (λ e. subst (λ w. x <ℤ w) e (int_ranked x z Less (sym h.0))) (below_each x zs h.1 y) (member_cases z zs y k)

strictly_ascending : (xs : List ℤ) → IsStrictlySortedBy int_cmp xs → IsAscending xs
unfolding IsStrictlySortedBy
strictly_ascending [] h = tt
strictly_ascending (x ∷ xs) h = (below_each x xs h.0, strictly_ascending xs h.1)

pub IsAscending-sorted : (xs ys : List ℤ) → IsSorted int_cmp xs → IsFiltered (DiffersFromLast int_eq) [] xs ys → IsAscending ys
IsAscending-sorted xs ys sorted filtered =
    subst IsAscending (sym (dedup_is int_eq xs ys filtered)) (strictly_ascending (dedup int_eq xs) (IsStrictlySortedBy-dedup int_cmp_total (λ x y. refl) xs sorted))

pub Contains-sorted : (xs ys zs : List ℤ) → IsPermutation xs ys → IsFiltered (DiffersFromLast int_eq) [] ys zs → (v : ℤ) → Contains zs v ↔ Contains xs v
Contains-sorted xs ys zs moved filtered v =
    let is = dedup_is int_eq ys zs filtered in (
      (λ h. Contains-permutation ys xs v (IsPermutation-sym xs ys moved) (Contains-from_dedup int_eq ys v (subst (λ l. Contains l v) is h))),
      (λ h. subst (λ l. Contains l v) (sym is) (Contains-dedup int_eq_equiv (λ x y. (Decides-int_eq x y).0) ys v (Contains-permutation xs ys v moved h))),
    )

-- an ascending list is known by its members
rest_of : (x y : ℤ) (xs ys : List ℤ) → x ≡ y → IsAscending (x ∷ xs) → ((v : ℤ) → Contains (x ∷ xs) v → Contains (y ∷ ys) v) → (v : ℤ) → Contains xs v → Contains ys v
rest_of x y xs ys e is to v h =
    ⊎_elim (λ f. absurd (not_below x (subst (λ w. x <ℤ w) (sym (e ∙ f)) (is.0 v h)))) (λ k. k) (member_cases y ys v (to v (later_member x xs v h)))

first_of : (x y : ℤ) (xs ys : List ℤ) → IsAscending (x ∷ xs) → IsAscending (y ∷ ys) → Contains (y ∷ ys) x → Contains (x ∷ xs) y → x ≡ y
first_of x y xs ys is js h k =
    ⊎_elim (λ e. sym e) (λ i. ⊎_elim (λ e. e) (λ j. absurd (not_below x (below_all x y x (is.0 y j) (js.0 x i)))) (member_cases x xs y k)) (member_cases y ys x h)

pub one_ascending : (xs ys : List ℤ) → IsAscending xs → IsAscending ys → ((v : ℤ) → Contains xs v ↔ Contains ys v) → xs ≡ ys
one_ascending [] [] is js same = refl
one_ascending [] (y ∷ ys) is js same = absurd (no_member y ((same y).1 (first_member y ys)))
one_ascending (x ∷ xs) [] is js same = absurd (no_member x ((same x).0 (first_member x xs)))
one_ascending (x ∷ xs) (y ∷ ys) is js same =
    let e : x ≡ y = first_of x y xs ys is js ((same x).0 (first_member x xs)) ((same y).1 (first_member y ys)) in
    let rest : xs ≡ ys = one_ascending xs ys is.1 js.1 (λ v. (rest_of x y xs ys e is (λ w. (same w).0) v, rest_of y x ys xs (sym e) js (λ w. (same w).1) v)) in
    ap (λ l. x ∷ l) rest ∙ ap (λ z. z ∷ ys) e
