-- two enqueues at once have five ends
use Rattle.std.proofs.Common.{◌≡◌, ◌≢◌, ℕ, ◌+◌, ◌≤◌, ℤ, pos, ◌⊎◌, inl, inr, ⊎_elim, List, [], ◌∷◌, ◌++◌, length, refl, sym, ap, ◌∙◌, subst, arith}
use Rattle.std.specs.List.{Contains}
use Rattle.models.specs.declared.finding.Found.{Found}
use Rattle.models.specs.declared.finding.Found.TheVariants.{Unit as Done}
use Rattle.models.specs.Objects.{fifo_queue}
use Rattle.models.proofs.Steps.{same_outcome}
use Rattle.events.specs.Events.{Mark}
use Rattle.events.specs.Events.Mark.{Invoked, Returned, Failed}
use Rattle.linspec.specs.Operations.{HasReturned, Precedes}
use Rattle.linspec.specs.Orders.{Taken, Pairwise, Run, IsLegalOrder}
use Rattle.linspec.specs.Ends.{End, Leaves, IsEnd, HasMoreThan}
use Rattle.linspec.specs.Examples.{enqueue, two_enqueues, key_marks}
use Rattle.linspec.proofs.Lists.{Contains-nil, Contains-head, Contains-tail, Contains-cons_cases}
use Rattle.linspec.proofs.Marks.{Precedes-returned}
use Rattle.linspec.proofs.Fates.{end_of, end_is}
use Rattle.linspec.proofs.Counts.{no_longer_than}

abbrev H : List Mark
H = key_marks 1 two_enqueues

of_two : (m : Mark) → Contains H m → (m ≡ Invoked 0 (enqueue 1 (pos 5))) ⊎ (m ≡ Invoked 1 (enqueue 1 (pos 6)))
of_two m h = ⊎_elim (λ e. inl (sym e)) (λ k. ⊎_elim (λ e. inr (sym e)) (λ n. absurd (Contains-nil m n)) (Contains-cons_cases (Invoked 1 (enqueue 1 (pos 6))) [] m k)) (Contains-cons_cases (Invoked 0 (enqueue 1 (pos 5))) (Invoked 1 (enqueue 1 (pos 6)) ∷ []) m h)

no_return : (id : ℕ) → HasReturned H id → ⊥
no_return id r = ⊎_elim (λ (e : Returned id r.0 ≡ Invoked 0 (enqueue 1 (pos 5))). cc) (λ (e : Returned id r.0 ≡ Invoked 1 (enqueue 1 (pos 6))). cc) (of_two _ r.1)

no_fail : (id : ℕ) → Contains H (Failed id) → ⊥
no_fail id h = ⊎_elim (λ (e : Failed id ≡ Invoked 0 (enqueue 1 (pos 5))). cc) (λ (e : Failed id ≡ Invoked 1 (enqueue 1 (pos 6))). cc) (of_two _ h)

-- every order of these two is legal that runs
pending_legal : (order : List Taken) (s : List ℤ) → ((x : Taken) → Contains order x → Contains H (Invoked x.id x.op)) → Pairwise (λ x y. x.id ≢ y.id) order → Run fifo_queue [] order s → IsLegalOrder fifo_queue H order s
pending_legal order s invoked once run = record {
  invoked = invoked;
  once = once;
  none_failed = λ x h f. no_fail x.id f;
  all_done = λ id d. absurd (no_return id d);
  in_time = every order;
  run = run;
  fits = λ x a h d. absurd (no_return x.id (a, d));
}
  where
    every : (l : List Taken) → Pairwise (λ x y. ¬ Precedes H y.id x.id) l
    every [] = tt
    every (x ∷ l) = ((λ y h p. no_return y.id (Precedes-returned H y.id x.id p)), every l)

abbrev a5 : Taken
a5 = record { id = 0; op = enqueue 1 (pos 5); found = Done }

abbrev b6 : Taken
b6 = record { id = 1; op = enqueue 1 (pos 6); found = Done }

apart : ◌≡◌ {A = ℕ} 0 1 → ⊥
apart e = omega arith

in_a : Contains H (Invoked 0 (enqueue 1 (pos 5)))
in_a = (0, omega arith, refl)

in_b : Contains H (Invoked 1 (enqueue 1 (pos 6)))
in_b = (1, omega arith, refl)

one_of : (x y : Taken) → Contains (x ∷ []) y → x ≡ y
one_of x y h = ⊎_elim (λ e. e) (λ n. absurd (Contains-nil y n)) (Contains-cons_cases x [] y h)

single_in : (x : Taken) → Contains H (Invoked x.id x.op) → (y : Taken) → Contains (x ∷ []) y → Contains H (Invoked y.id y.op)
single_in x i y h = subst (λ (w : Taken). Contains H (Invoked w.id w.op)) (one_of x y h) i

both_in : (x z : Taken) → Contains H (Invoked x.id x.op) → Contains H (Invoked z.id z.op) → (y : Taken) → Contains (x ∷ z ∷ []) y → Contains H (Invoked y.id y.op)
both_in x z i j y h = ⊎_elim (λ e. subst (λ (w : Taken). Contains H (Invoked w.id w.op)) e i) (λ k. single_in z j y k) (Contains-cons_cases x (z ∷ []) y h)

none : IsLegalOrder fifo_queue H [] []
none = pending_legal [] [] (λ x h. absurd (Contains-nil x h)) tt refl

five : IsLegalOrder fifo_queue H (a5 ∷ []) (pos 5 ∷ [])
five = pending_legal (a5 ∷ []) (pos 5 ∷ []) (single_in a5 in_a) ((λ y h. absurd (Contains-nil y h)), tt) (pos 5 ∷ [], inl refl, refl)

six : IsLegalOrder fifo_queue H (b6 ∷ []) (pos 6 ∷ [])
six = pending_legal (b6 ∷ []) (pos 6 ∷ []) (single_in b6 in_b) ((λ y h. absurd (Contains-nil y h)), tt) (pos 6 ∷ [], inl refl, refl)

five_six : IsLegalOrder fifo_queue H (a5 ∷ b6 ∷ []) (pos 5 ∷ pos 6 ∷ [])
five_six = pending_legal (a5 ∷ b6 ∷ []) (pos 5 ∷ pos 6 ∷ []) (both_in a5 b6 in_a in_b)
    ((λ y h e. apart (e ∙ ap (λ (w : Taken). w.id) (sym (one_of b6 y h)))), ((λ y h. absurd (Contains-nil y h)), tt)) (pos 5 ∷ [], inl refl, (pos 5 ∷ pos 6 ∷ [], inl refl, refl))

six_five : IsLegalOrder fifo_queue H (b6 ∷ a5 ∷ []) (pos 6 ∷ pos 5 ∷ [])
six_five = pending_legal (b6 ∷ a5 ∷ []) (pos 6 ∷ pos 5 ∷ []) (both_in b6 a5 in_b in_a)
    ((λ y h e. apart (sym (e ∙ ap (λ (w : Taken). w.id) (sym (one_of a5 y h))))), ((λ y h. absurd (Contains-nil y h)), tt)) (pos 6 ∷ [], inl refl, (pos 6 ∷ pos 5 ∷ [], inl refl, refl))

abbrev left_by : (order : List Taken) (s : List ℤ) → IsLegalOrder fifo_queue H order s → End (List ℤ)
left_by order s l = (end_of fifo_queue H order s l).0

abbrev E0 : End (List ℤ)
E0 = left_by [] [] none

abbrev E1 : End (List ℤ)
E1 = left_by (a5 ∷ []) (pos 5 ∷ []) five

abbrev E2 : End (List ℤ)
E2 = left_by (b6 ∷ []) (pos 6 ∷ []) six

abbrev E3 : End (List ℤ)
E3 = left_by (a5 ∷ b6 ∷ []) (pos 5 ∷ pos 6 ∷ []) five_six

abbrev E4 : End (List ℤ)
E4 = left_by (b6 ∷ a5 ∷ []) (pos 6 ∷ pos 5 ∷ []) six_five

ends : List (End (List ℤ))
ends = E0 ∷ E1 ∷ E2 ∷ E3 ∷ E4 ∷ []

is_end : (order : List Taken) (s : List ℤ) (l : IsLegalOrder fifo_queue H order s) → IsEnd fifo_queue H (left_by order s l)
is_end order s l = (order, (end_of fifo_queue H order s l).1)

state_is : (order : List Taken) (s : List ℤ) (l : IsLegalOrder fifo_queue H order s) → (left_by order s l).state ≡ s
state_is order s l = (end_of fifo_queue H order s l).2

differ : (order order' : List Taken) (s t : List ℤ) (l : IsLegalOrder fifo_queue H order s) (k : IsLegalOrder fifo_queue H order' t) → s ≢ t → left_by order s l ≢ left_by order' t k
differ order order' s t l k ne e = ne (sym (state_is order s l) ∙ ap (λ (f : End (List ℤ)). f.state) e ∙ state_is order' t k)

cons_apart : {E : Type 0} (x y : E) (ys : List E) → x ≢ y → ((z : E) → Contains ys z → x ≢ z) → (z : E) → Contains (y ∷ ys) z → x ≢ z
cons_apart x y ys ne rest z h = ⊎_elim (λ e q. ne (q ∙ sym e)) (rest z) (Contains-cons_cases y ys z h)

nil_apart : {E : Type 0} (x z : E) → Contains [] z → x ≢ z
nil_apart x z h = absurd (Contains-nil z h)

distinct : Pairwise (λ e f. e ≢ f) ends
unfolding ends
distinct = (
  cons_apart E0 E1 (E2 ∷ E3 ∷ E4 ∷ []) (differ _ _ _ _ none five (λ e. cc)) (cons_apart E0 E2 (E3 ∷ E4 ∷ []) (differ _ _ _ _ none six (λ e. cc)) (cons_apart E0 E3 (E4 ∷ []) (differ _ _ _ _ none five_six (λ e. cc)) (cons_apart E0 E4 [] (differ _ _ _ _ none six_five (λ e. cc)) (nil_apart E0)))),
  (
    cons_apart E1 E2 (E3 ∷ E4 ∷ []) (differ _ _ _ _ five six (λ e. cc)) (cons_apart E1 E3 (E4 ∷ []) (differ _ _ _ _ five five_six (λ e. cc)) (cons_apart E1 E4 [] (differ _ _ _ _ five six_five (λ e. cc)) (nil_apart E1))),
    (
      cons_apart E2 E3 (E4 ∷ []) (differ _ _ _ _ six five_six (λ e. cc)) (cons_apart E2 E4 [] (differ _ _ _ _ six six_five (λ e. cc)) (nil_apart E2)),
      (
        cons_apart E3 E4 [] (differ _ _ _ _ five_six six_five (λ e. cc)) (nil_apart E3),
        (nil_apart E4, tt),
      ),
    ),
  ),
)

enq_step : (s t : List ℤ) (v : ℤ) (found : Found) → fifo_queue.Steps s (enqueue 1 v) found t → (found ≡ Done) × (t ≡ s ++ v ∷ [])
enq_step s t v found h = let p = same_outcome (s ++ v ∷ [], Done) (t, found) h in (sym p.1, sym p.0)

which : (x : Taken) → Contains H (Invoked x.id x.op) → ((x.id ≡ 0) × (x.op ≡ enqueue 1 (pos 5))) ⊎ ((x.id ≡ 1) × (x.op ≡ enqueue 1 (pos 6)))
which x h = ⊎_elim (λ (e : Invoked x.id x.op ≡ Invoked 0 (enqueue 1 (pos 5))). inl ((let t : x.id ≡ 0 = cc in t), (let t : x.op ≡ enqueue 1 (pos 5) = cc in t)))
    (λ (e : Invoked x.id x.op ≡ Invoked 1 (enqueue 1 (pos 6))). inr ((let t : x.id ≡ 1 = cc in t), (let t : x.op ≡ enqueue 1 (pos 6) = cc in t))) (of_two _ h)

-- a first operation, and what the queue is then
took : (x : Taken) (s t : List ℤ) → Contains H (Invoked x.id x.op) → fifo_queue.Steps s x.op x.found t → ((x ≡ a5) × (t ≡ s ++ pos 5 ∷ [])) ⊎ ((x ≡ b6) × (t ≡ s ++ pos 6 ∷ []))
took x s t i step =
    ⊎_elim
    (λ w. (let r = enq_step s t (pos 5) x.found (subst (λ op. fifo_queue.Steps s op x.found t) w.1 step) in inl ((λ i. record { id = w.0 i; op = w.1 i; found = r.0 i }), r.1)))
    (λ w. (let r = enq_step s t (pos 6) x.found (subst (λ op. fifo_queue.Steps s op x.found t) w.1 step) in inr ((λ i. record { id = w.0 i; op = w.1 i; found = r.0 i }), r.1)))
    (which x i)

-- an end of one of the five orders is one of the list
same_end : (order : List Taken) (s : List ℤ) (l : IsLegalOrder fifo_queue H order s) (e : End (List ℤ)) (order' : List Taken) → order' ≡ order → e.state ≡ s → Leaves fifo_queue H order' e → left_by order s l ≡ e
same_end order s l e order' is st v = end_is fifo_queue H order (left_by order s l) e (state_is order s l ∙ sym st) (end_of fifo_queue H order s l).1 (subst (λ o. Leaves fifo_queue H o e) is v)

among : (order : List Taken) (e : End (List ℤ)) → Leaves fifo_queue H order e → Contains ends e
unfolding ends
among [] e v = subst (Contains ends) (same_end [] [] none e [] refl (sym v.legal.run) v) (0, omega arith, refl)
among (x ∷ []) e v =
    let r : (mid : List ℤ) × fifo_queue.Steps [] x.op x.found mid × (mid ≡ e.state) = v.legal.run in
    ⊎_elim
    (λ t. subst (Contains ends) (same_end (a5 ∷ []) (pos 5 ∷ []) five e (x ∷ []) (ap (λ w. w ∷ []) t.0) (sym r.2 ∙ t.1) v) (1, omega arith, refl))
    (λ t. subst (Contains ends) (same_end (b6 ∷ []) (pos 6 ∷ []) six e (x ∷ []) (ap (λ w. w ∷ []) t.0) (sym r.2 ∙ t.1) v) (2, omega arith, refl))
    (took x [] r.0 (v.legal.invoked x (Contains-head x [])) r.1)
among (x ∷ y ∷ []) e v =
    let r : (mid : List ℤ) × fifo_queue.Steps [] x.op x.found mid × ((mid' : List ℤ) × fifo_queue.Steps mid y.op y.found mid' × (mid' ≡ e.state)) = v.legal.run in
    let ne : x.id ≢ y.id = v.legal.once.0 y (Contains-head y []) in
    ⊎_elim
    (λ t. ⊎_elim
    (λ u. absurd (ne (ap (λ (w : Taken). w.id) (t.0 ∙ sym u.0))))
    (λ u. subst (Contains ends) (same_end (a5 ∷ b6 ∷ []) (pos 5 ∷ pos 6 ∷ []) five_six e (x ∷ y ∷ []) (λ i. t.0 i ∷ u.0 i ∷ []) (sym r.2.2 ∙ u.1 ∙ ap (λ l. l ++ pos 6 ∷ []) t.1) v) (3, omega arith, refl))
    (took y r.0 r.2.0 (v.legal.invoked y (Contains-tail x (y ∷ []) y (Contains-head y []))) r.2.1))
    (λ t. ⊎_elim
    (λ u. subst (Contains ends) (same_end (b6 ∷ a5 ∷ []) (pos 6 ∷ pos 5 ∷ []) six_five e (x ∷ y ∷ []) (λ i. t.0 i ∷ u.0 i ∷ []) (sym r.2.2 ∙ u.1 ∙ ap (λ l. l ++ pos 5 ∷ []) t.1) v) (4, omega arith, refl))
    (λ u. absurd (ne (ap (λ (w : Taken). w.id) (t.0 ∙ sym u.0))))
    (took y r.0 r.2.0 (v.legal.invoked y (Contains-tail x (y ∷ []) y (Contains-head y []))) r.2.1))
    (took x [] r.0 (v.legal.invoked x (Contains-head x (y ∷ []))) r.1)
among (x ∷ y ∷ z ∷ order) e v =
    let xy : x.id ≢ y.id = v.legal.once.0 y (Contains-head y (z ∷ order)) in
    let xz : x.id ≢ z.id = v.legal.once.0 z (Contains-tail y (z ∷ order) z (Contains-head z order)) in
    let yz : y.id ≢ z.id = v.legal.once.1.0 z (Contains-head z order) in
    let ix : x.id ≤ 1 = small x (v.legal.invoked x (Contains-head x (y ∷ z ∷ order))) in
    let iy : y.id ≤ 1 = small y (v.legal.invoked y (Contains-tail x (y ∷ z ∷ order) y (Contains-head y (z ∷ order)))) in
    let iz : z.id ≤ 1 = small z (v.legal.invoked z (Contains-tail x (y ∷ z ∷ order) z (Contains-tail y (z ∷ order) z (Contains-head z order)))) in
    absurd (omega arith)
  where
    small : (w : Taken) → Contains H (Invoked w.id w.op) → w.id ≤ 1
    small w h = ⊎_elim (λ t. (let q : w.id ≡ 0 = t.0 in omega arith)) (λ t. (let q : w.id ≡ 1 = t.0 in omega arith)) (which w h)

each_end : (e : End (List ℤ)) → Contains ends e → IsEnd fifo_queue H e
unfolding ends
each_end e h =
    ⊎_elim (λ q. subst (IsEnd fifo_queue H) q (is_end _ _ none)) (λ h. ⊎_elim (λ q. subst (IsEnd fifo_queue H) q (is_end _ _ five)) (λ h. ⊎_elim (λ q. subst (IsEnd fifo_queue H) q (is_end _ _ six))
    (λ h. ⊎_elim (λ q. subst (IsEnd fifo_queue H) q (is_end _ _ five_six)) (λ h. ⊎_elim (λ q. subst (IsEnd fifo_queue H) q (is_end _ _ six_five)) (λ n. absurd (Contains-nil e n))
    (Contains-cons_cases E4 [] e h)) (Contains-cons_cases E3 (E4 ∷ []) e h)) (Contains-cons_cases E2 (E3 ∷ E4 ∷ []) e h)) (Contains-cons_cases E1 (E2 ∷ E3 ∷ E4 ∷ []) e h)) (Contains-cons_cases E0 (E1 ∷ E2 ∷ E3 ∷ E4 ∷ []) e h)

-- there are five, and no more
pub five_ends : HasMoreThan fifo_queue H 4 × (¬ HasMoreThan fifo_queue H 5)
unfolding ends
five_ends = (
  record { ends = ends; many = refl; distinct = distinct; each = each_end },
  (λ h. (let l : length h.ends ≤ length ends = no_longer_than h.ends ends h.distinct (λ e k. (let i = h.each e k in among i.0 e i.1)) in let m : length h.ends ≡ 5 + 1 = h.many in omega arith)),
)
