-- how often values are in lists of them
use Rattle.std.proofs.Common.{◌≡◌, ◌≢◌, ℕ, zero, suc, ◌+◌, ◌<◌, ◌≤◌, ℤ, ◌⊎◌, inl, inr, ⊎_elim, cond, int_lt, List, [], ◌∷◌, length, get_or, remove, refl, sym, ap, ◌∙◌, subst, arith}
use Rattle.std.specs.Ordering.{int_eq}
use Rattle.std.specs.List.{Contains}
use Rattle.std.proofs.lemmas.Bool.{cases_Bool, cases_order}
use Rattle.std.proofs.lemmas.Bool.Decides.{Decides-int_eq}
use Rattle.std.proofs.lemmas.List.Sums.{sum_by-cons}
use Rattle.values.specs.Multisets.{with_one, without_one}
use Rattle.models.specs.Runs.{times_in}
use Rattle.values.proofs.PutIn.{no_member, first_member, later_member, member_cases}
use Rattle.values.proofs.Bags.{with_one-later, with_one-here, without_one-here, without_one-later, same_int, other_int}

-- one where both are the same, else none
abbrev pub one_if : ℤ → ℤ → ℕ
one_if x w = cond (int_eq x w) 1 0

pub one_if-same : (x w : ℤ) → x ≡ w → one_if x w ≡ 1
one_if-same x w e = ap (λ b. cond b 1 0) (same_int x w e)

pub one_if-other : (x w : ℤ) → x ≢ w → one_if x w ≡ 0
one_if-other x w d = ap (λ b. cond b 1 0) (other_int x w d)

pub times_cons : (w x : ℤ) (xs : List ℤ) → times_in w (x ∷ xs) ≡ one_if x w + times_in w xs
times_cons w x xs = sum_by-cons (λ y. one_if y w) x xs

-- one more of a value
pub times_with : (w v : ℤ) (s : List ℤ) → times_in w (with_one v s) ≡ one_if v w + times_in w s
times_with w v [] = times_cons w v []
times_with w v (x ∷ xs) =
    ⊎_elim
    (λ e. let rest = times_with w v xs in let tail = times_cons w x (with_one v xs) in let whole = times_cons w x xs in ap (times_in w) (with_one-later v x xs e) ∙ (omega arith))
    (λ e. ap (times_in w) (with_one-here v x xs e) ∙ times_cons w v (x ∷ xs))
    (cases_Bool (int_lt x v))

pub length_with : (v : ℤ) (s : List ℤ) → length (with_one v s) ≡ suc (length s)
length_with v [] = refl
length_with v (x ∷ xs) =
    ⊎_elim
    (λ e. ap length (with_one-later v x xs e) ∙ ap suc (length_with v xs))
    (λ e. ap length (with_one-here v x xs e))
    (cases_Bool (int_lt x v))

-- one less
pub times_without : (w v : ℤ) (s : List ℤ) → Contains s v → times_in w s ≡ one_if v w + times_in w (without_one v s)
times_without w v [] h = absurd (no_member v h)
times_without w v (x ∷ xs) h =
    ⊎_elim
    (λ e. times_cons w x xs ∙ ap (λ y. one_if y w + times_in w xs) ((Decides-int_eq x v).0 e) ∙ ap (λ l. one_if v w + times_in w l) (sym (without_one-here v x xs e)))
    (λ e. ⊎_elim
    (λ (q : x ≡ v). let t = same_int x v q in cc)
    (λ k.
    let rest = times_without w v xs k in
    let tail = times_cons w x (without_one v xs) in
    let whole = times_cons w x xs in
    let later : times_in w (without_one v (x ∷ xs)) ≡ times_in w (x ∷ without_one v xs) = ap (times_in w) (without_one-later v x xs e) in
    omega arith)
    (member_cases x xs v h))
    (cases_Bool (int_eq x v))

pub length_without : (v : ℤ) (s : List ℤ) → Contains s v → length s ≡ suc (length (without_one v s))
length_without v [] h = absurd (no_member v h)
length_without v (x ∷ xs) h =
    ⊎_elim
    (λ e. ap (λ l. suc (length l)) (sym (without_one-here v x xs e)))
    (λ e. ⊎_elim
    (λ (q : x ≡ v). let t = same_int x v q in cc)
    (λ k. ap suc (length_without v xs k) ∙ ap (λ l. suc (length l)) (sym (without_one-later v x xs e)))
    (member_cases x xs v h))
    (cases_Bool (int_eq x v))

-- the same by its place
pub times_remove : (w : ℤ) (xs : List ℤ) (at : ℕ) (d : ℤ) → at < length xs → times_in w xs ≡ one_if (get_or xs at d) w + times_in w (remove xs at)
times_remove w [] at d fits = absurd (omega arith)
times_remove w (x ∷ xs) zero d fits = times_cons w x xs
times_remove w (x ∷ xs) (suc at) d fits =
    let rest = times_remove w xs at d (omega arith) in
    let whole = times_cons w x xs in
    let tail : times_in w (remove (x ∷ xs) (suc at)) ≡ one_if x w + times_in w (remove xs at) = times_cons w x (remove xs at) in
    omega (arith, rest, whole, tail)

pub length_remove : (xs : List ℤ) (at : ℕ) → at < length xs → length xs ≡ suc (length (remove xs at))
length_remove [] at fits = absurd (omega arith)
length_remove (x ∷ xs) zero fits = refl
length_remove (x ∷ xs) (suc at) fits = ap suc (length_remove xs at (omega arith))

-- a value that is in is counted
pub in_if_counted : (v : ℤ) (s : List ℤ) → 0 < times_in v s → Contains s v
in_if_counted v [] h = absurd (omega arith)
in_if_counted v (x ∷ xs) h =
    ⊎_elim
    (λ e. subst (Contains (x ∷ xs)) ((Decides-int_eq x v).0 e) (first_member x xs))
    (λ e. let none : one_if x v ≡ 0 = ap (λ b. cond b 1 0) e in let whole = times_cons v x xs in later_member x xs v (in_if_counted v xs (omega (arith, none, whole))))
    (cases_Bool (int_eq x v))

zero_or : (n : ℕ) → ¬ (0 < n) → n ≡ 0
zero_or zero h = refl
zero_or (suc n) h = absurd (h (omega arith))

pub nothing_counted : (v : ℤ) (s : List ℤ) → ¬ Contains s v → times_in v s ≡ 0
nothing_counted v s out = zero_or (times_in v s) (λ h. out (in_if_counted v s h))

-- of a longer list some value is in more often
pub more_often : (ys xs : List ℤ) → length xs < length ys → (v : ℤ) × Contains ys v × (times_in v xs < times_in v ys)
more_often [] xs longer = absurd (omega arith)
more_often (y ∷ ys) xs longer = by_count (λ zs. more_often ys zs) (times_in y xs) refl
  where
    by_count : ((zs : List ℤ) → length zs < length ys → (v : ℤ) × Contains ys v × (times_in v zs < times_in v ys))
        → (n : ℕ) → times_in y xs ≡ n → (v : ℤ) × Contains (y ∷ ys) v × (times_in v xs < times_in v (y ∷ ys))
    by_count rest zero none =
        let whole = times_cons y y ys in
        let one = one_if-same y y refl in
        (y, first_member y ys, omega (arith, whole, one, none))
    by_count rest (suc n) some =
        let there : Contains xs y = in_if_counted y xs (omega (arith, some)) in
        let shorter = length_without y xs there in
        let r : (v : ℤ) × Contains ys v × (times_in v (without_one y xs) < times_in v ys) = rest (without_one y xs) (omega (arith, shorter)) in
        let whole = times_cons r.0 y ys in
        let less = times_without r.0 y xs there in
        (r.0, later_member y ys r.0 r.1, omega (arith, whole, less, r.2))

pub cases_int : (v w : ℤ) → (v ≡ w) ⊎ (v ≢ w)
cases_int v w = ⊎_elim (λ e. inl ((Decides-int_eq v w).0 e)) (λ e. inr (λ q. let t = same_int v w q in cc)) (cases_Bool (int_eq v w))

-- where each value is in no more often the list is no longer
pub fewer : (xs ys : List ℤ) → ((v : ℤ) → times_in v xs ≤ times_in v ys) → length xs ≤ length ys
fewer xs ys less = by_order (cases_order (length xs) (length ys))
  where
    by_order : (length xs ≡ length ys) ⊎ ((length xs < length ys) ⊎ (length ys < length xs)) → length xs ≤ length ys
    by_order h = ⊎_elim (λ e. omega arith) (λ k. ⊎_elim (λ l. omega arith) (λ l. let r = more_often xs ys l in let n = less r.0 in absurd (omega (arith, n, r.2))) k) h
