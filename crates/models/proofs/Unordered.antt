-- the results of the table of the queue without an order
use Rattle.std.proofs.Common.{◌≡◌, ◌≢◌, ◌↔◌, ℕ, zero, suc, ◌+◌, ◌<◌, ◌≤◌, ℤ, pos, ◌<ℤ◌, inl, inr, ⊎_elim, cond, int_lt, List, [], ◌∷◌, ◌++◌, map, length, get_or, refl, sym, ap, ◌∙◌, subst, arith}
use Rattle.std.specs.Ordering.{int_eq}
use Rattle.std.specs.List.{Contains}
use Rattle.std.specs.List.Sorted.{IsPermutation}
use Rattle.std.proofs.lemmas.Bool.{cases_Bool}
use Rattle.std.proofs.lemmas.Bool.Decides.{Decides-int_eq}
use Rattle.std.proofs.lemmas.Int.{ints}
use Rattle.std.proofs.lemmas.List.{get_or-map, length-map}
use Rattle.std.proofs.lemmas.List.Elements.{Contains-get_or}
use Rattle.std.proofs.lemmas.List.Sorted.{sum_by-IsPermutation}
use Rattle.std.proofs.lemmas.List.Sums.{sum_by-cons}
use Rattle.models.specs.declared.operation.Name.{Name}
use Rattle.models.specs.declared.operation.Name.TheVariants.{Enqueue, Dequeue}
use Rattle.models.specs.declared.operation.Part.{Part}
use Rattle.models.specs.declared.operation.Part.TheVariants.{Nil, Int}
use Rattle.models.specs.declared.operation.Op.{Op}
use Rattle.models.specs.declared.finding.Found.{Found}
use Rattle.models.specs.declared.finding.Found.TheVariants.{Unit as Done, Item}
use Rattle.values.specs.Members.{IsAscending}
use Rattle.values.specs.Multisets.{with_one, without_one, values_of}
use Rattle.models.specs.Objects.{AreApart, IsOneOf, taken_from, unordered_apply, unordered_queue}
use Rattle.models.specs.Runs.{Runs, enqueued, dequeued, is_enqueue_of, is_dequeue_of, times_enqueued, times_dequeued, times_in}
use Rattle.values.proofs.PutIn.{no_member, first_member, later_member, member_cases}
use Rattle.values.proofs.Bags.{with_one-later, with_one-here, without_one-here, without_one-later, same_int, other_int, Contains-values_of, IsAscending-values_of}
use Rattle.models.proofs.Steps.{same_outcome, Runs-append}

-- the result of a dequeue
from_taken : (s values t : List ℤ) (found : Found) → IsOneOf (taken_from s values) (t, found) → (v : ℤ) × Contains values v × (t ≡ without_one v s) × (found ≡ Item v)
from_taken s [] t found h = absurd h
from_taken s (v ∷ values) t found h =
    ⊎_elim
    (λ (e : (without_one v s, Item v) ≡ (t, found)). (v, first_member v values, sym (ap (λ (r : List ℤ × Found). r.0) e), sym (ap (λ (r : List ℤ × Found). r.1) e)))
    (λ k. let later = from_taken s values t found k in (later.0, later_member v values later.0 later.1, later.2, later.3))
    h

to_taken : (s values : List ℤ) (v : ℤ) → Contains values v → IsOneOf (taken_from s values) (without_one v s, Item v)
to_taken s [] v h = absurd (no_member v h)
to_taken s (w ∷ values) v h = ⊎_elim (λ e. inl (ap (λ z. (without_one z s, Item z)) e)) (λ k. inr (to_taken s values v k)) (member_cases w values v h)

pub dequeue_is : (s t : List ℤ) (found : Found) → IsOneOf (unordered_apply Dequeue Nil s) (t, found) ↔ ((v : ℤ) × Contains s v × (t ≡ without_one v s) × (found ≡ Item v))
dequeue_is s t found = (
  (λ h. let o = from_taken s (values_of s) t found h in (o.0, (Contains-values_of s o.0).0 o.1, o.2, o.3)),
  (λ h.
      let there = to_taken s (values_of s) h.0 ((Contains-values_of s h.0).1 h.1) in
      let is : (without_one h.0 s, Item h.0) ≡ (t, found) = ap (λ x. (x, Item h.0)) (sym h.2) ∙ ap (λ f. (t, f)) (sym h.3) in
      subst (IsOneOf (taken_from s (values_of s))) is there),
)

-- how often a value is in
times_cons : (w x : ℤ) (xs : List ℤ) → times_in w (x ∷ xs) ≡ cond (int_eq x w) 1 0 + times_in w xs
times_cons w x xs = sum_by-cons (λ y. cond (int_eq y w) 1 0) x xs

times_with : (w v : ℤ) (s : List ℤ) → times_in w (with_one v s) ≡ cond (int_eq v w) 1 0 + times_in w s
times_with w v [] = times_cons w v []
times_with w v (x ∷ xs) =
    ⊎_elim
    (λ e. let rest = times_with w v xs in let tail = times_cons w x (with_one v xs) in let whole = times_cons w x xs in ap (times_in w) (with_one-later v x xs e) ∙ (omega arith))
    (λ e. ap (times_in w) (with_one-here v x xs e) ∙ times_cons w v (x ∷ xs))
    (cases_Bool (int_lt x v))

times_without : (w v : ℤ) (s : List ℤ) → Contains s v → times_in w s ≡ cond (int_eq v w) 1 0 + times_in w (without_one v s)
times_without w v [] h = absurd (no_member v h)
times_without w v (x ∷ xs) h =
    ⊎_elim
    (λ e. times_cons w x xs ∙ ap (λ y. cond (int_eq y w) 1 0 + times_in w xs) ((Decides-int_eq x v).0 e) ∙ ap (λ l. cond (int_eq v w) 1 0 + times_in w l) (sym (without_one-here v x xs e)))
    (λ e. ⊎_elim
    (λ (q : x ≡ v). let t = same_int x v q in cc)
    (λ k.
    let rest = times_without w v xs k in
    let tail = times_cons w x (without_one v xs) in
    let whole = times_cons w x xs in
    let later : times_in w (without_one v (x ∷ xs)) ≡ times_in w (x ∷ without_one v xs) = ap (times_in w) (without_one-later v x xs e) in
    omega arith)
    (member_cases x xs v h))
    (cases_Bool (int_eq x v))

-- no two outcomes of a dequeue leave the same state: of the value that is taken out there is one less
ascends : (xs : List ℤ) → IsAscending xs → (i j : ℕ) (d : ℤ) → i < j → j < length xs → get_or xs i d <ℤ get_or xs j d
ascends [] is i j d lt fits = absurd (omega arith)
ascends (x ∷ xs) is i zero d lt fits = absurd (omega arith)
ascends (x ∷ xs) is zero (suc j) d lt fits = is.0 (get_or xs j d) (Contains-get_or xs j d (omega arith))
ascends (x ∷ xs) is (suc i) (suc j) d lt fits = ascends xs is.1 i j d (omega arith) (omega arith)

left_differ : (s : List ℤ) (a b : ℤ) → Contains s a → Contains s b → a ≢ b → without_one a s ≢ without_one b s
left_differ s a b has_a has_b other e =
    let less = times_without a a s has_a in
    let same = times_without a b s has_b in
    let one : cond {A = ℕ} (int_eq a a) 1 0 ≡ 1 = ap (λ t. cond t 1 0) (same_int a a refl) in
    let none : cond {A = ℕ} (int_eq b a) 1 0 ≡ 0 = ap (λ t. cond t 1 0) (other_int b a (λ q. other (sym q))) in
    let left : times_in a (without_one a s) ≡ times_in a (without_one b s) = ap (times_in a) e in
    absurd (omega (arith, less, same, one, none, left))

taken_differ : (s values : List ℤ) → IsAscending values → ((v : ℤ) → Contains values v → Contains s v) → AreApart (taken_from s values)
taken_differ s values is among i j d lt fits e =
    let f : ℤ → List ℤ × Found = (λ v. (without_one v s, Item v)) in
    let long : length (map f values) ≡ length values = length-map values f in
    let a = get_or values i (pos 0) in
    let b = get_or values j (pos 0) in
    let below : a <ℤ b = ascends values is i j (pos 0) lt (omega arith) in
    let at_i : get_or (map f values) i d ≡ f a = get_or-map f values i (pos 0) d (omega arith) in
    let at_j : get_or (map f values) j d ≡ f b = get_or-map f values j (pos 0) d (omega arith) in
    left_differ s a b (among a (Contains-get_or values i (pos 0) (omega arith))) (among b (Contains-get_or values j (pos 0) (omega arith)))
    (λ q. absurd (omega (arith, ints)))
    (ap (λ (r : List ℤ × Found). r.0) (sym at_i) ∙ e ∙ ap (λ (r : List ℤ × Found). r.0) at_j)

alone : {S : Type 0} (xs : List (S × Found)) → length xs ≤ 1 → AreApart xs
alone xs few i j d lt fits = absurd (omega arith)

pub unordered_apart : (name : Name) (part : Part) (s : List ℤ) → AreApart (unordered_apply name part s)
unordered_apart Enqueue (Int v) s = alone (unordered_apply Enqueue (Int v) s) (omega arith)
unordered_apart Dequeue Nil s = taken_differ s (values_of s) (IsAscending-values_of s) (λ v. (Contains-values_of s v).0)
unordered_apart _ _ s = alone [] (omega arith)

in_if_counted : (v : ℤ) (s : List ℤ) → 0 < times_in v s → Contains s v
in_if_counted v [] h = absurd (omega arith)
in_if_counted v (x ∷ xs) h =
    ⊎_elim
    (λ e. subst (Contains (x ∷ xs)) ((Decides-int_eq x v).0 e) (first_member x xs))
    (λ e. let none : cond {A = ℕ} (int_eq x v) 1 0 ≡ 0 = ap (λ b. cond b 1 0) e in let whole = times_cons v x xs in later_member x xs v (in_if_counted v xs (omega (arith, none))))
    (cases_Bool (int_eq x v))

-- each step keeps what was put in and not taken out
step_counts : (v : ℤ) (name : Name) (part : Part) (s t : List ℤ) (found : Found) → IsOneOf (unordered_apply name part s) (t, found)
    → cond (is_enqueue_of v name part) 1 0 + times_in v s ≡ cond (is_dequeue_of v name found) 1 0 + times_in v t
step_counts v Enqueue (Int w) s t found h =
    let is = same_outcome (with_one w s, Done) (t, found) h in
    subst (λ f. cond (int_eq w v) 1 0 + times_in v s ≡ cond (is_dequeue_of v Enqueue f) 1 0 + times_in v t) is.1
    (subst (λ l. cond (int_eq w v) 1 0 + times_in v s ≡ 0 + times_in v l) is.0 (let more = times_with v w s in omega arith))
step_counts v Dequeue Nil s t found h =
    let o = (dequeue_is s t found).0 h in
    subst (λ f. 0 + times_in v s ≡ cond (is_dequeue_of v Dequeue f) 1 0 + times_in v t) (sym o.3)
    (subst (λ l. 0 + times_in v s ≡ cond (int_eq o.0 v) 1 0 + times_in v l) (sym o.2) (let less = times_without v o.0 s o.1 in omega arith))
step_counts v _ _ s t found h = absurd h

all_counted : (v : ℤ) (steps : List (Op × Found)) (s t : List ℤ) → Runs unordered_queue s steps t → times_enqueued v steps + times_in v s ≡ times_dequeued v steps + times_in v t
all_counted v [] s t h = ap (λ l. 0 + times_in v l) h
all_counted v (step ∷ steps) s t h =
    let first = step_counts v step.0.name step.0.part s h.0 step.1 h.1 in
    let rest = all_counted v steps h.0 t h.2 in
    let put : times_enqueued v (step ∷ steps) ≡ cond (is_enqueue_of v step.0.name step.0.part) 1 0 + times_enqueued v steps = sum_by-cons (λ (x : Op × Found). cond (is_enqueue_of v x.0.name x.0.part) 1 0) step steps in
    let taken : times_dequeued v (step ∷ steps) ≡ cond (is_dequeue_of v step.0.name step.1) 1 0 + times_dequeued v steps = sum_by-cons (λ (x : Op × Found). cond (is_dequeue_of v x.0.name x.1) 1 0) step steps in
    omega arith

pub each_is_dequeued_once : (steps : List (Op × Found)) (t : List ℤ) (v : ℤ) → Runs unordered_queue [] steps t → times_enqueued v steps ≡ times_dequeued v steps + times_in v t
each_is_dequeued_once steps t v h = let all = all_counted v steps [] t h in let none : times_in v [] ≡ 0 = refl in omega arith

-- any order will do
abbrev put_all : List ℤ → List ℤ → List ℤ
put_all [] s = s
put_all (v ∷ values) s = put_all values (with_one v s)

all_put : (key : ℕ) (values s : List ℤ) → Runs unordered_queue s (map (enqueued key) values) (put_all values s)
all_put key [] s = refl
all_put key (v ∷ values) s = (with_one v s, inl refl, all_put key values (with_one v s))

times_put : (w : ℤ) (values s : List ℤ) → times_in w (put_all values s) ≡ times_in w values + times_in w s
times_put w [] s = let none : times_in w [] ≡ 0 = refl in omega arith
times_put w (v ∷ values) s = let rest = times_put w values (with_one v s) in let one = times_with w v s in let whole = times_cons w v values in omega arith

nothing_in : (s : List ℤ) → ((w : ℤ) → times_in w s ≡ 0) → s ≡ []
nothing_in [] h = refl
nothing_in (x ∷ xs) h = let none = h x in let whole = times_cons x x xs in let is : cond {A = ℕ} (int_eq x x) 1 0 ≡ 1 = ap (λ b. cond b 1 0) (same_int x x refl) in absurd (omega (arith, is))

all_taken : (key : ℕ) (others s : List ℤ) → ((w : ℤ) → times_in w s ≡ times_in w others) → Runs unordered_queue s (map (dequeued key) others) []
all_taken key [] s same = nothing_in s same
all_taken key (v ∷ others) s same =
    let whole = times_cons v v others in
    let is : cond {A = ℕ} (int_eq v v) 1 0 ≡ 1 = ap (λ b. cond b 1 0) (same_int v v refl) in
    let now = same v in
    let there : Contains s v = in_if_counted v s (omega (arith, is)) in (
      without_one v s,
      (dequeue_is s (without_one v s) (Item v)).1 (v, there, refl, refl),
      all_taken key others (without_one v s) (λ w. let less = times_without w v s there in let both = same w in let all = times_cons w v others in omega arith),
    )

pub in_any_order : (key : ℕ) (values others : List ℤ) → IsPermutation values others → Runs unordered_queue [] (map (enqueued key) values ++ map (dequeued key) others) []
in_any_order key values others moved =
    Runs-append unordered_queue [] (put_all values []) [] (map (enqueued key) values) (map (dequeued key) others) (all_put key values [])
    (all_taken key others (put_all values []) (λ w.
    let put = times_put w values [] in
    let none : times_in w [] ≡ 0 = refl in
    let same : times_in w others ≡ times_in w values = sum_by-IsPermutation (λ x. cond (int_eq x w) 1 0) values others moved in
    omega arith))
