-- how often a value is in a multiset, and the steps of a queue without an order
use Rattle.std.proofs.Common.{◌≡◌, ◌≢◌, ℕ, suc, ◌+◌, ◌<◌, ◌≤◌, ℤ, ◌⊎◌, inl, inr, ⊎_elim, cond, int_lt, List, [], ◌∷◌, refl, sym, ap, ◌∙◌, subst, arith}
use Rattle.std.specs.Ordering.{int_eq}
use Rattle.std.specs.List.{Contains}
use Rattle.std.proofs.lemmas.Bool.{cases_Bool}
use Rattle.std.proofs.lemmas.Bool.Decides.{Decides-int_eq}
use Rattle.std.proofs.lemmas.List.Sums.{sum_by-cons}
use Rattle.models.specs.declared.operation.Name.{Name}
use Rattle.models.specs.declared.operation.Name.TheVariants.{Enqueue, Dequeue}
use Rattle.models.specs.declared.operation.Part.{Part}
use Rattle.models.specs.declared.operation.Part.TheVariants.{Nil, Int}
use Rattle.models.specs.declared.finding.Found.{Found}
use Rattle.models.specs.declared.finding.Found.TheVariants.{Unit as Done, Item}
use Rattle.values.specs.Multisets.{with_one, without_one}
use Rattle.models.specs.Objects.{IsOneOf, unordered_apply}
use Rattle.models.specs.Runs.{times_in}
use Rattle.values.proofs.PutIn.{no_member, first_member, later_member, member_cases}
use Rattle.values.proofs.Bags.{with_one-later, with_one-here, without_one-here, without_one-later, same_int, other_int}
use Rattle.models.proofs.Steps.{same_outcome}
use Rattle.models.proofs.Unordered.{dequeue_is}

times_cons : (w x : ℤ) (xs : List ℤ) → times_in w (x ∷ xs) ≡ cond (int_eq x w) 1 0 + times_in w xs
times_cons w x xs = sum_by-cons (λ y. cond (int_eq y w) 1 0) x xs

pub times_with : (w v : ℤ) (s : List ℤ) → times_in w (with_one v s) ≡ cond (int_eq v w) 1 0 + times_in w s
times_with w v [] = times_cons w v []
times_with w v (x ∷ xs) =
    ⊎_elim
    (λ e. let rest = times_with w v xs in let tail = times_cons w x (with_one v xs) in let whole = times_cons w x xs in ap (times_in w) (with_one-later v x xs e) ∙ (omega arith))
    (λ e. ap (times_in w) (with_one-here v x xs e) ∙ times_cons w v (x ∷ xs))
    (cases_Bool (int_lt x v))

pub times_without : (w v : ℤ) (s : List ℤ) → Contains s v → times_in w s ≡ cond (int_eq v w) 1 0 + times_in w (without_one v s)
times_without w v [] h = absurd (no_member v h)
times_without w v (x ∷ xs) h =
    ⊎_elim
    (λ e. times_cons w x xs ∙ ap (λ y. cond (int_eq y w) 1 0 + times_in w xs) ((Decides-int_eq x v).0 e) ∙ ap (λ l. cond (int_eq v w) 1 0 + times_in w l) (sym (without_one-here v x xs e)))
    (λ e. ⊎_elim
    (λ (q : x ≡ v). let t = same_int x v q in cc)
    (λ k.
    let rest = times_without w v xs k in
    let tail = times_cons w x (without_one v xs) in
    let whole = times_cons w x xs in
    let later : times_in w (without_one v (x ∷ xs)) ≡ times_in w (x ∷ without_one v xs) = ap (times_in w) (without_one-later v x xs e) in
    omega arith)
    (member_cases x xs v h))
    (cases_Bool (int_eq x v))

pub in_if_counted : (v : ℤ) (s : List ℤ) → 0 < times_in v s → Contains s v
in_if_counted v [] h = absurd (omega arith)
in_if_counted v (x ∷ xs) h =
    ⊎_elim
    (λ e. subst (Contains (x ∷ xs)) ((Decides-int_eq x v).0 e) (first_member x xs))
    (λ e. let none : cond {A = ℕ} (int_eq x v) 1 0 ≡ 0 = ap (λ b. cond b 1 0) e in let whole = times_cons v x xs in later_member x xs v (in_if_counted v xs (omega (arith, none))))
    (cases_Bool (int_eq x v))

-- one more, one less; of another value as many as before
pub one_more : (v : ℤ) (s : List ℤ) → times_in v (with_one v s) ≡ suc (times_in v s)
one_more v s =
    let t = times_with v v s in
    let one : cond {A = ℕ} (int_eq v v) 1 0 ≡ 1 = ap (λ b. cond b 1 0) (same_int v v refl) in
    omega (arith, one)

pub more_of_another : (w v : ℤ) (s : List ℤ) → v ≢ w → times_in w (with_one v s) ≡ times_in w s
more_of_another w v s ne =
    let t = times_with w v s in
    let none : cond {A = ℕ} (int_eq v w) 1 0 ≡ 0 = ap (λ b. cond b 1 0) (other_int v w ne) in
    omega (arith, none)

pub one_less : (v : ℤ) (s : List ℤ) → Contains s v → times_in v s ≡ suc (times_in v (without_one v s))
one_less v s h =
    let t = times_without v v s h in
    let one : cond {A = ℕ} (int_eq v v) 1 0 ≡ 1 = ap (λ b. cond b 1 0) (same_int v v refl) in
    omega (arith, one)

pub less_of_another : (w v : ℤ) (s : List ℤ) → Contains s v → v ≢ w → times_in w s ≡ times_in w (without_one v s)
less_of_another w v s h ne =
    let t = times_without w v s h in
    let none : cond {A = ℕ} (int_eq v w) 1 0 ≡ 0 = ap (λ b. cond b 1 0) (other_int v w ne) in
    omega (arith, none)

pub no_more_than_before : (w v : ℤ) (s : List ℤ) → Contains s v → times_in w (without_one v s) ≤ times_in w s
no_more_than_before w v s h = let t = times_without w v s h in omega arith

pub equal_or_not : (v w : ℤ) → (v ≡ w) ⊎ (v ≢ w)
equal_or_not v w = ⊎_elim (λ e. inl ((Decides-int_eq v w).0 e)) (λ e. inr (λ q. let t = same_int v w q in cc)) (cases_Bool (int_eq v w))

-- the possible steps
abbrev pub IsEnqueue : Name → Part → List ℤ → Found → List ℤ → Type 0
IsEnqueue name part s found t = (v : ℤ) × (name ≡ Enqueue) × (part ≡ Int v) × (t ≡ with_one v s) × (found ≡ Done)

abbrev pub IsDequeue : Name → Part → List ℤ → Found → List ℤ → Type 0
IsDequeue name part s found t = (v : ℤ) × (name ≡ Dequeue) × (part ≡ Nil) × Contains s v × (t ≡ without_one v s) × (found ≡ Item v)

pub unordered_view : (name : Name) (part : Part) (s t : List ℤ) (found : Found) → IsOneOf (unordered_apply name part s) (t, found) → IsEnqueue name part s found t ⊎ IsDequeue name part s found t
unordered_view Enqueue (Int v) s t found h = let e = same_outcome (with_one v s, Done) (t, found) h in inl (v, refl, refl, sym e.0, sym e.1)
unordered_view Dequeue Nil s t found h = let r = (dequeue_is s t found).0 h in inr (r.0, refl, refl, r.1, r.2, r.3)
unordered_view _ _ s t found h = absurd h

pub by_enqueue : (name : Name) (part : Part) (s t : List ℤ) (found : Found) → IsEnqueue name part s found t → IsOneOf (unordered_apply name part s) (t, found)
by_enqueue name part s t found h =
    subst (λ n. IsOneOf (unordered_apply n part s) (t, found)) (sym h.1)
    (subst (λ p. IsOneOf (unordered_apply Enqueue p s) (t, found)) (sym h.2)
    (inl (λ i. (sym h.3 i, sym h.4 i))))

pub by_dequeue : (name : Name) (part : Part) (s t : List ℤ) (found : Found) → IsDequeue name part s found t → IsOneOf (unordered_apply name part s) (t, found)
by_dequeue name part s t found h =
    subst (λ n. IsOneOf (unordered_apply n part s) (t, found)) (sym h.1)
    (subst (λ p. IsOneOf (unordered_apply Dequeue p s) (t, found)) (sym h.2)
    ((dequeue_is s t found).1 (h.0, h.3, h.4, h.5)))
