-- how many different values there are
use Rattle.std.proofs.Common.{◌≡◌, ◌≢◌, ℕ, ◌+◌, ◌<◌, ◌≤◌, ℤ, ◌<ℤ◌, ⊎_elim, List, [], ◌∷◌, length, get_or, take, drop, sym, ap, ◌∙◌, subst, arith}
use Rattle.std.specs.List.{Contains}
use Rattle.std.proofs.lemmas.List.{length-append, take-append-drop}
use Rattle.std.proofs.lemmas.List.Elements.{Contains-append_left}
use Rattle.values.specs.Members.{IsAscending}
use Rattle.values.specs.Multisets.{NeverFalls, values_of}
use Rattle.values.proofs.PutIn.{no_member, first_member, later_member, member_cases, below_all, not_below}
use Rattle.values.proofs.Bags.{Contains-values_of, IsAscending-values_of}
use Rattle.values.proofs.Firsts.{values_new}

-- an ascending list whose members another one has is no longer
no_longer : (xs ys : List ℤ) → IsAscending xs → IsAscending ys → ((v : ℤ) → Contains xs v → Contains ys v) → length xs ≤ length ys
no_longer [] ys is js among = omega arith
no_longer (x ∷ xs) [] is js among = absurd (no_member x (among x (first_member x xs)))
no_longer (x ∷ xs) (y ∷ ys) is js among =
    ⊎_elim
    (λ (e : y ≡ x).
    let rest = no_longer xs ys is.1 js.1 (λ v h.
    ⊎_elim (λ (q : y ≡ v). absurd (not_below v (subst (λ z. z <ℤ v) (sym e ∙ q) (is.0 v h)))) (λ k. k) (member_cases y ys v (among v (later_member x xs v h)))) in
    omega (arith, rest))
    (λ k.
    let rest = no_longer (x ∷ xs) ys is js.1 (λ v h.
    ⊎_elim
    (λ (q : y ≡ v). absurd (not_below y (below_all y x y (js.0 x k) (subst (λ z. x <ℤ z) (sym q) (⊎_elim (λ f. absurd (not_below x (subst (λ z. z <ℤ x) (q ∙ sym f) (js.0 x k)))) (is.0 v) (member_cases x xs v h))))))
    (λ j. j)
    (member_cases y ys v (among v h))) in
    omega (arith, rest))
    (member_cases y ys x (among x (first_member x xs)))

-- the first values have no more different ones than all
pub fewer_at_first : (xs : List ℤ) (n : ℕ) → length (values_of (take n xs)) ≤ length (values_of xs)
fewer_at_first xs n = no_longer (values_of (take n xs)) (values_of xs) (IsAscending-values_of (take n xs)) (IsAscending-values_of xs)
    (λ v h. (Contains-values_of xs v).1 (subst (λ l. Contains l v) (take-append-drop n xs) (Contains-append_left (take n xs) (drop n xs) v ((Contains-values_of (take n xs) v).0 h))))

-- one value more, which is new or not
pub one_different : (s : List ℤ) (at : ℕ) (d : ℤ) → at < length s → NeverFalls s → ((p : ℕ) (e : ℤ) → p + 1 ≡ at → get_or s p e ≢ get_or s at e)
    → length (values_of (take (at + 1) s)) ≡ length (values_of (take at s)) + 1
one_different s at d fits is new = ap length (values_new s at d fits is new) ∙ length-append (values_of (take at s)) (get_or s at d ∷ [])
