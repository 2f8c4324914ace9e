-- what a step of a queue without an order may be, and how often a value is in the queue
use Rattle.std.proofs.Common.{◌≡◌, ℕ, ◌+◌, ◌<◌, ℤ, ◌⊎◌, inl, inr, ⊎_elim, int_lt, cond, List, [], ◌∷◌, refl, sym, ap, ◌∙◌, subst, arith}
use Rattle.std.specs.List.{Contains}
use Rattle.std.specs.Ordering.{int_eq}
use Rattle.std.proofs.lemmas.Bool.{cases_Bool}
use Rattle.std.proofs.lemmas.Bool.Decides.{Decides-int_eq}
use Rattle.std.proofs.lemmas.List.Sums.{sum_by-cons}
use Rattle.models.specs.declared.operation.Name.{Name}
use Rattle.models.specs.declared.operation.Name.TheVariants.{Enqueue, Dequeue}
use Rattle.models.specs.declared.operation.Part.{Part}
use Rattle.models.specs.declared.operation.Part.TheVariants.{Nil, Int}
use Rattle.models.specs.declared.finding.Found.{Found}
use Rattle.models.specs.declared.finding.Found.TheVariants.{Unit as Done, Item}
use Rattle.models.specs.declared.finding.Answer.{Answer}
use Rattle.models.specs.declared.finding.Answer.TheVariants.{Nothing, Number, Numbers, Many}
use Rattle.models.specs.Objects.{IsOneOf, unordered_apply, unordered_queue, Fits}
use Rattle.models.specs.Runs.{times_in}
use Rattle.models.proofs.Steps.{same_outcome}
use Rattle.models.proofs.Unordered.{dequeue_is}
use Rattle.values.specs.Multisets.{with_one, without_one}
use Rattle.values.proofs.PutIn.{no_member, first_member, later_member, member_cases}
use Rattle.values.proofs.Bags.{with_one-later, with_one-here, without_one-here, without_one-later, same_int}
use Rattle.linspec.specs.Orders.{Taken, Run}
use Rattle.linspec.proofs.Lists.{Contains-nil, Contains-cons_cases}
use Rattle.bag_matches.specs.Matches.{Enqueues}
use Rattle.bag_matches.proofs.Tests.{IsDequeue}

abbrev pub PutsIn : Name → Part → List ℤ → Found → List ℤ → Type 0
PutsIn name part s found t = (v : ℤ) × (name ≡ Enqueue) × (part ≡ Int v) × (t ≡ with_one v s) × (found ≡ Done)

abbrev pub TakesOut : Name → Part → List ℤ → Found → List ℤ → Type 0
TakesOut name part s found t = (v : ℤ) × (name ≡ Dequeue) × (part ≡ Nil) × Contains s v × (t ≡ without_one v s) × (found ≡ Item v)

pub step_is : (name : Name) (part : Part) (s t : List ℤ) (found : Found) → IsOneOf (unordered_apply name part s) (t, found) → PutsIn name part s found t ⊎ TakesOut name part s found t
step_is Enqueue (Int v) s t found h = let e = same_outcome (with_one v s, Done) (t, found) h in inl (v, refl, refl, sym e.0, sym e.1)
step_is Dequeue Nil s t found h = let o = (dequeue_is s t found).0 h in inr (o.0, refl, refl, o.1, o.2, o.3)
step_is _ _ s t found h = absurd h

pub put_step : (name : Name) (part : Part) (s t : List ℤ) (found : Found) → PutsIn name part s found t → IsOneOf (unordered_apply name part s) (t, found)
put_step name part s t found h =
    subst (λ n. IsOneOf (unordered_apply n part s) (t, found)) (sym h.1)
    (subst (λ p. IsOneOf (unordered_apply Enqueue p s) (t, found)) (sym h.2)
    (inl (λ i. (sym h.3 i, sym h.4 i))))

pub take_step : (name : Name) (part : Part) (s t : List ℤ) (found : Found) → TakesOut name part s found t → IsOneOf (unordered_apply name part s) (t, found)
take_step name part s t found h =
    subst (λ n. IsOneOf (unordered_apply n part s) (t, found)) (sym h.1)
    (subst (λ p. IsOneOf (unordered_apply Dequeue p s) (t, found)) (sym h.2)
    ((dequeue_is s t found).1 (h.0, h.3, h.4, h.5)))

pub fits_number : (v : ℤ) (answer : Answer) → Fits (Item v) answer → answer ≡ Number v
fits_number v Nothing h = absurd h
fits_number v (Number a) h = ap Number (sym h)
fits_number v (Numbers a b) h = absurd h
fits_number v (Many t) h = absurd h

-- each operation of a run enqueues a value, or is a dequeue that finds one
abbrev pub IsKnown : Taken → Type 0
IsKnown x = ((v : ℤ) × Enqueues x.op v × (x.found ≡ Done)) ⊎ ((v : ℤ) × IsDequeue x.op × (x.found ≡ Item v))

pub run_known : (order : List Taken) (s t : List ℤ) → Run unordered_queue s order t → (x : Taken) → Contains order x → IsKnown x
run_known [] s t run x h = absurd (Contains-nil x h)
run_known (y ∷ order) s t run x h = ⊎_elim
    (λ e. subst IsKnown e (⊎_elim
    (λ p. inl (p.0, (p.1, p.2), p.4))
    (λ p. inr (p.0, (p.1, p.2), p.5))
    (step_is y.op.name y.op.part s run.0 y.found run.1)))
    (λ k. run_known order run.0 t run.2 x k)
    (Contains-cons_cases y order x h)

-- how often a value is in
pub times_cons : (w x : ℤ) (xs : List ℤ) → times_in w (x ∷ xs) ≡ cond (int_eq x w) 1 0 + times_in w xs
times_cons w x xs = sum_by-cons (λ y. cond (int_eq y w) 1 0) x xs

pub times_with : (w v : ℤ) (s : List ℤ) → times_in w (with_one v s) ≡ cond (int_eq v w) 1 0 + times_in w s
times_with w v [] = times_cons w v []
times_with w v (x ∷ xs) = ⊎_elim
    (λ e. (let rest = times_with w v xs in let tail = times_cons w x (with_one v xs) in let whole = times_cons w x xs in ap (times_in w) (with_one-later v x xs e) ∙ (omega arith)))
    (λ e. ap (times_in w) (with_one-here v x xs e) ∙ times_cons w v (x ∷ xs))
    (cases_Bool (int_lt x v))

pub times_without : (w v : ℤ) (s : List ℤ) → Contains s v → times_in w s ≡ cond (int_eq v w) 1 0 + times_in w (without_one v s)
times_without w v [] h = absurd (no_member v h)
times_without w v (x ∷ xs) h = ⊎_elim
    (λ e. times_cons w x xs ∙ ap (λ y. cond (int_eq y w) 1 0 + times_in w xs) ((Decides-int_eq x v).0 e) ∙ ap (λ l. cond (int_eq v w) 1 0 + times_in w l) (sym (without_one-here v x xs e)))
    (λ e. ⊎_elim
    (λ (q : x ≡ v). let t = same_int x v q in cc)
    (λ k.
    let rest = times_without w v xs k in
    let tail = times_cons w x (without_one v xs) in
    let whole = times_cons w x xs in
    let later : times_in w (without_one v (x ∷ xs)) ≡ times_in w (x ∷ without_one v xs) = ap (times_in w) (without_one-later v x xs e) in
    omega arith)
    (member_cases x xs v h))
    (cases_Bool (int_eq x v))

pub in_if_counted : (v : ℤ) (s : List ℤ) → 0 < times_in v s → Contains s v
in_if_counted v [] h = absurd (omega arith)
in_if_counted v (x ∷ xs) h = ⊎_elim
    (λ e. subst (Contains (x ∷ xs)) ((Decides-int_eq x v).0 e) (first_member x xs))
    (λ e. (let none : cond {A = ℕ} (int_eq x v) 1 0 ≡ 0 = ap (λ b. cond b 1 0) e in let whole = times_cons v x xs in later_member x xs v (in_if_counted v xs (omega (arith, none)))))
    (cases_Bool (int_eq x v))
