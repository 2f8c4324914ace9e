-- what each event makes of a balanced history
use Rattle.std.proofs.Common.{◌≡◌, ◌≢◌, ◌↔◌, ℕ, ◌+◌, ◌<◌, ◌≤◌, ℤ, ◌⊎◌, inl, inr, ⊎_elim, false, cond, List, [], ◌∷◌, ◌++◌, refl, sym, ap, ◌∙◌, subst, append_assoc, arith}
use Rattle.std.specs.List.{Contains}
use Rattle.std.specs.Ordering.{int_eq}
use Rattle.std.proofs.lemmas.Bool.{cases_Bool, cases_eq, true≢false, false_from_ne_true}
use Rattle.std.proofs.lemmas.Bool.Decides.{Decides-int_eq, same_from_decides}
use Rattle.std.proofs.lemmas.List.{append-nil}
use Rattle.std.proofs.lemmas.List.Elements.{Contains-append_left, Contains-push, Contains-push_cases}
use Rattle.models.specs.declared.operation.Name.TheVariants.{Enqueue}
use Rattle.models.specs.declared.operation.Part.TheVariants.{Int}
use Rattle.models.specs.declared.operation.Op.{Op}
use Rattle.models.specs.declared.finding.Answer.{Answer}
use Rattle.models.specs.declared.finding.Answer.TheVariants.{Number}
use Rattle.models.specs.Runs.{is_enqueue_of}
use Rattle.events.specs.Events.{Mark}
use Rattle.events.specs.Events.Mark.{Invoked, Returned, Failed, Crashed}
use Rattle.linspec.specs.MarkRule.{id_of, AreWellFormed}
use Rattle.linspec.specs.Operations.{IsInvoked, IsOpen}
use Rattle.linspec.proofs.Lists.{Contains-head, snoc_cut, cut_at}
use Rattle.linspec.proofs.Fates.{invoked_or_not}
use Rattle.set_chains.proofs.Once.{one_op, one_answer, returned_invoked}
use Rattle.bag_matches.specs.Matches.{IsEnqueueOf, HasDequeued, AreKnown}
use Rattle.bag_matches.specs.Counts.{puts, takes, enqueued, dequeued, IsBalanced, MayDequeue, MayFail}
use Rattle.bag_matches.proofs.Tests.{IsDequeue, IsPut, IsTake, enqueue_is, puts_is, takes_is, no_both}
use Rattle.bag_matches.proofs.Counting.{count_append, count_cons, count_push, count_same, count_mono}
use Rattle.bag_matches.proofs.Prefixes.{well_front, not_both}

-- an operation is known to enqueue a value, or to have answered one
abbrev pub IsKnownIn : List Mark → ℕ → Type 0
IsKnownIn marks id = ((v : ℤ) × IsEnqueueOf marks id v) ⊎ ((v : ℤ) × HasDequeued marks id v)

module _ (ms : List Mark) (m : Mark) (well : AreWellFormed (ms ++ m ∷ [])) where
  abbrev pub longer : List Mark
  longer = ms ++ m ∷ []

  pub kept : (n : Mark) → Contains ms n → Contains longer n
  kept n h = Contains-append_left ms (m ∷ []) n h

  pub well_before : AreWellFormed ms
  well_before = well_front ms (m ∷ []) well

  -- an operation that was invoked before is not invoked now
  op_was : (id : ℕ) → IsInvoked ms id → (op : Op) → Contains longer (Invoked id op) → Contains ms (Invoked id op)
  op_was id i op h = subst (λ o. Contains ms (Invoked id o)) (one_op longer well id i.0 op (kept _ i.1) h) i.1

  pub cuts : (front rest : List Mark) → front ++ rest ≡ longer → (front ≡ longer) ⊎ ((r : List Mark) × (front ++ r ≡ ms))
  cuts front rest cut = ⊎_elim
      (λ none. inl (sym (append-nil front) ∙ ap (λ l. front ++ l) (sym none) ∙ cut))
      (λ c. inr (c.0, c.2))
      (snoc_cut front rest ms m cut)

  pub extended : (front rest : List Mark) → front ++ rest ≡ ms → front ++ (rest ++ m ∷ []) ≡ longer
  extended front rest cut = sym (append_assoc front rest (m ∷ [])) ∙ ap (λ l. l ++ m ∷ []) cut

  -- what takes a value out, and how often
  takes_same : (v : ℤ) (n : Mark) → Contains ms n → takes longer v n ≡ takes ms v n
  takes_same v n h = same_from_decides (takes longer v n) (takes ms v n) (
    (λ t.
        let i : IsTake longer v n = (takes_is longer v n).0 t in
        let was : IsInvoked ms i.0 = returned_invoked ms well_before i.0 (Number v) (subst (Contains ms) i.1 h) in
        (i.0, i.1, i.2, op_was i.0 was i.2 i.3, i.4)),
    (λ i. (takes_is longer v n).1 (i.0, i.1, i.2, kept _ i.3, i.4)),
  )
      (takes_is ms v n)

  pub dequeued_same : (v : ℤ) (front rest : List Mark) → front ++ rest ≡ ms → dequeued longer v front ≡ dequeued ms v front
  dequeued_same v front rest cut = count_same (takes longer v) (takes ms v) front (λ n h. takes_same v n (subst (λ l. Contains l n) cut (Contains-append_left front rest n h)))

  pub dequeued_all : (v : ℤ) → dequeued longer v longer ≡ dequeued ms v ms + cond (takes longer v m) 1 0
  dequeued_all v = let a = count_push (takes longer v) ms m in let b = dequeued_same v ms [] (append-nil ms) in omega (arith, a, b)

  -- what puts a value in
  enqueued_less : (v : ℤ) (front : List Mark) → enqueued longer v front ≤ enqueued ms v front
  enqueued_less v front = count_mono (puts longer v) (puts ms v) front (λ n t. (let i : IsPut longer v n = (puts_is longer v n).0 t in (puts_is ms v n).1 (i.0, i.1, i.2, i.3, (λ f. i.4 (kept _ f)))))

  known_was : AreKnown longer → AreKnown ms
  known_was known id r = ⊎_elim
      (λ a. inl (a.0, (a.1.0, op_was id (returned_invoked ms well_before id r.0 r.1) a.1.0 a.1.1, a.1.2)))
      (λ a.
      let d : HasDequeued longer id a.0 = a.1 in
      inr (
        a.0,
        record {
          op = d.op;
          invoked = op_was id (returned_invoked ms well_before id r.0 r.1) d.op d.invoked;
          dequeues = d.dequeues;
          of_any = d.of_any;
          answer = subst (λ x. Contains ms (Returned id x)) (one_answer longer well id r.0 (Number a.0) (kept _ r.1) d.answer) r.1;
        },
      ))
      (known id (r.0, kept _ r.1))

  pub enqueue_stays : (id : ℕ) (v : ℤ) → IsEnqueueOf ms id v → IsEnqueueOf longer id v
  enqueue_stays id v a = (a.0, kept _ a.1, a.2)

  dequeue_stays : (id : ℕ) (v : ℤ) → HasDequeued ms id v → HasDequeued longer id v
  dequeue_stays id v d = record { op = d.op; invoked = kept _ d.invoked; dequeues = d.dequeues; of_any = d.of_any; answer = kept _ d.answer }

  known_is : AreKnown ms → ((id : ℕ) (a : Answer) → m ≡ Returned id a → IsKnownIn longer id) → AreKnown longer
  known_is known last id r = ⊎_elim
      (λ k. ⊎_elim (λ a. inl (a.0, enqueue_stays id a.0 a.1)) (λ a. inr (a.0, dequeue_stays id a.0 a.1)) (known id (r.0, k)))
      (λ e. last id r.0 e)
      (Contains-push_cases ms m _ r.1)

  pub balanced_was : IsBalanced longer → IsBalanced ms
  balanced_was balanced = record {
    known = known_was balanced.known;
    covered = λ v front rest cut. (
        let le : dequeued longer v front ≤ enqueued longer v front = balanced.covered v front (rest ++ m ∷ []) (extended front rest cut) in
        let a = dequeued_same v front rest cut in
        let b = enqueued_less v front in
        omega (arith, le, a, b));
  }

  -- a mark that is not a fail
  module _ (no_fail : (id : ℕ) → m ≢ Failed id) where
    puts_same : (v : ℤ) (n : Mark) → puts longer v n ≡ puts ms v n
    puts_same v n = same_from_decides (puts longer v n) (puts ms v n) (
      (λ t. (let i : IsPut longer v n = (puts_is longer v n).0 t in (i.0, i.1, i.2, i.3, (λ f. i.4 (kept _ f))))),
      (λ i. (puts_is longer v n).1 (i.0, i.1, i.2, i.3, (λ f. ⊎_elim i.4 (no_fail i.0) (Contains-push_cases ms m _ f)))),
    )
        (puts_is ms v n)

    pub enqueued_same : (v : ℤ) (front : List Mark) → enqueued longer v front ≡ enqueued ms v front
    enqueued_same v front = count_same (puts longer v) (puts ms v) front (λ n h. puts_same v n)

    pub enqueued_all : (v : ℤ) → enqueued longer v longer ≡ enqueued ms v ms + cond (puts longer v m) 1 0
    enqueued_all v = let a = count_push (puts longer v) ms m in let b = enqueued_same v ms in omega (arith, a, b)

    balanced_is : IsBalanced ms → ((id : ℕ) (a : Answer) → m ≡ Returned id a → IsKnownIn longer id)
        → ((v : ℤ) → dequeued longer v longer ≤ enqueued longer v longer) → IsBalanced longer
    balanced_is balanced last all = record {
      known = known_is balanced.known last;
      covered = λ v front rest cut. ⊎_elim
          (λ (e : front ≡ longer). subst (λ l. dequeued longer v l ≤ enqueued longer v l) (sym e) (all v))
          (λ c. (let le : dequeued ms v front ≤ enqueued ms v front = balanced.covered v front c.0 c.1 in let a = dequeued_same v front c.0 c.1 in let b = enqueued_same v front in omega (arith, le, a, b)))
          (cuts front rest cut);
    }

    -- one that takes nothing out
    pub quiet : ((v : ℤ) → takes longer v m ≡ false) → ((id : ℕ) (a : Answer) → m ≡ Returned id a → IsKnownIn longer id) → IsBalanced ms → IsBalanced longer
    quiet none last balanced = balanced_is balanced last (λ v. (
        let le : dequeued ms v ms ≤ enqueued ms v ms = balanced.covered v ms [] (append-nil ms) in
        let a = dequeued_all v in
        let b = enqueued_all v in
        let c : cond {A = ℕ} (takes longer v m) 1 0 ≡ 0 = ap (λ t. cond t 1 0) (none v) in
        omega (arith, le, a, b, c)))

-- the ok of an enqueue
module _ (ms : List Mark) (id : ℕ) (answer : Answer) (well : AreWellFormed (ms ++ Returned id answer ∷ [])) where
  ok_no_fail : (n : ℕ) → Returned id answer ≢ Failed n
  ok_no_fail n e = cc

  own_op : (op : Op) → Contains ms (Invoked id op) → (v : ℤ) (i : IsTake (ms ++ Returned id answer ∷ []) v (Returned id answer)) → op ≡ i.2
  own_op op h v i =
      let e : Returned id answer ≡ Returned i.0 (Number v) = i.1 in
      let s : id ≡ i.0 = cc in
      one_op (ms ++ Returned id answer ∷ []) well id op i.2 (kept ms (Returned id answer) well _ h) (subst (λ n. Contains (ms ++ Returned id answer ∷ []) (Invoked n i.2)) (sym s) i.3)

  pub enqueue_takes_none : (w : ℤ) → IsEnqueueOf ms id w → (v : ℤ) → takes (ms ++ Returned id answer ∷ []) v (Returned id answer) ≡ false
  enqueue_takes_none w own v = false_from_ne_true _ (λ t. (
      let i : IsTake (ms ++ Returned id answer ∷ []) v (Returned id answer) = (takes_is (ms ++ Returned id answer ∷ []) v (Returned id answer)).0 t in
      no_both own.0.name (ap (λ (o : Op). o.name) (own_op own.0 own.1 v i) ∙ i.4.0) own.2.0))

  pub balanced_after_enqueue : (w : ℤ) → IsEnqueueOf ms id w → IsBalanced ms → IsBalanced (ms ++ Returned id answer ∷ [])
  balanced_after_enqueue w own balanced = quiet ms (Returned id answer) well ok_no_fail (enqueue_takes_none w own)
      (λ n a e. (let q : Returned id answer ≡ Returned n a = e in let s : id ≡ n = cc in inl (w, subst (λ k. IsEnqueueOf (ms ++ Returned id answer ∷ []) k w) s (enqueue_stays ms (Returned id answer) well id w own))))
      balanced

  pub not_known : (op : Op) → Contains ms (Invoked id op) → ((v : ℤ) → ¬ ((op.name ≡ Enqueue) × (op.part ≡ Int v))) → (IsDequeue op → (v : ℤ) → answer ≢ Number v) → ¬ AreKnown (ms ++ Returned id answer ∷ [])
  not_known op h no_enqueue no_value known =
      let at : (o : Op) → Contains (ms ++ Returned id answer ∷ []) (Invoked id o) → op ≡ o = λ o k. one_op (ms ++ Returned id answer ∷ []) well id op o (kept ms (Returned id answer) well _ h) k in
      ⊎_elim
      (λ a. (let e = at a.1.0 a.1.1 in no_enqueue a.0 (ap (λ (o : Op). o.name) e ∙ a.1.2.0, ap (λ (o : Op). o.part) e ∙ a.1.2.1)))
      (λ a.
      let d : HasDequeued (ms ++ Returned id answer ∷ []) id a.0 = a.1 in
      let e : op ≡ d.op = at d.op d.invoked in
      no_value (ap (λ (o : Op). o.name) e ∙ d.dequeues, ap (λ (o : Op). o.part) e ∙ d.of_any) a.0 (one_answer (ms ++ Returned id answer ∷ []) well id answer (Number a.0) (Contains-push ms (Returned id answer)) d.answer))
      (known id (answer, Contains-push ms (Returned id answer)))

-- the ok of a dequeue
module _ (ms : List Mark) (id : ℕ) (v : ℤ) (well : AreWellFormed (ms ++ Returned id (Number v) ∷ [])) (op : Op) (invoked : Contains ms (Invoked id op)) (is : IsDequeue op) where
  abbrev ok : Mark
  ok = Returned id (Number v)

  pub takes_it : (w : ℤ) → takes (ms ++ ok ∷ []) w ok ≡ int_eq v w
  takes_it w = same_from_decides (takes (ms ++ ok ∷ []) w ok) (int_eq v w) (
    (λ t. (let i : IsTake (ms ++ ok ∷ []) w ok = (takes_is (ms ++ ok ∷ []) w ok).0 t in let e : Returned id (Number v) ≡ Returned i.0 (Number w) = i.1 in let a : Number v ≡ Number w = cc in let s : v ≡ w = cc in s)),
    (λ e. (takes_is (ms ++ ok ∷ []) w ok).1 (id, ap (λ x. Returned id (Number x)) e, op, kept ms ok well _ invoked, is)),
  )
      (Decides-int_eq v w)

  no_fail_ok : (n : ℕ) → ok ≢ Failed n
  no_fail_ok n e = cc

  own : HasDequeued (ms ++ ok ∷ []) id v
  own = record { op = op; invoked = kept ms ok well _ invoked; dequeues = is.0; of_any = is.1; answer = Contains-push ms ok }

  pub dequeued_after : (w : ℤ) → dequeued (ms ++ ok ∷ []) w (ms ++ ok ∷ []) ≡ dequeued ms w ms + cond (int_eq v w) 1 0
  dequeued_after w = dequeued_all ms ok well w ∙ ap (λ t. dequeued ms w ms + cond t 1 0) (takes_it w)

  pub enqueued_after : (w : ℤ) → enqueued (ms ++ ok ∷ []) w (ms ++ ok ∷ []) ≡ enqueued ms w ms
  enqueued_after w = let a = enqueued_all ms ok well no_fail_ok w in omega (arith, a)

  may_dequeue : IsBalanced (ms ++ ok ∷ []) → MayDequeue ms v
  may_dequeue balanced =
      let le = balanced.covered v (ms ++ ok ∷ []) [] (append-nil (ms ++ ok ∷ [])) in
      let a = dequeued_after v in
      let b = enqueued_after v in
      let c : cond {A = ℕ} (int_eq v v) 1 0 ≡ 1 = ap (λ t. cond t 1 0) ((Decides-int_eq v v).1 refl) in
      omega (arith, le, a, b, c)

  with_dequeue : IsBalanced ms → MayDequeue ms v → IsBalanced (ms ++ ok ∷ [])
  with_dequeue balanced may = balanced_is ms ok well no_fail_ok balanced
      (λ n a e. (let q : Returned id (Number v) ≡ Returned n a = e in let s : id ≡ n = cc in inr (v, subst (λ k. HasDequeued (ms ++ ok ∷ []) k v) s own)))
      (λ w.
      let le : dequeued ms w ms ≤ enqueued ms w ms = balanced.covered w ms [] (append-nil ms) in
      let a = dequeued_after w in
      let b = enqueued_after w in
      ⊎_elim
      (λ t.
      let same : v ≡ w = (Decides-int_eq v w).0 t in
      let lt : dequeued ms w ms < enqueued ms w ms = subst (MayDequeue ms) same may in
      let c : cond {A = ℕ} (int_eq v w) 1 0 ≡ 1 = ap (λ z. cond z 1 0) t in
      omega (arith, lt, a, b, c))
      (λ f. (let c : cond {A = ℕ} (int_eq v w) 1 0 ≡ 0 = ap (λ z. cond z 1 0) f in omega (arith, le, a, b, c)))
      (cases_Bool (int_eq v w)))

  pub balanced_after_dequeue : IsBalanced (ms ++ ok ∷ []) ↔ (IsBalanced ms × MayDequeue ms v)
  balanced_after_dequeue = ((λ b. (balanced_was ms ok well b, may_dequeue b)), (λ h. with_dequeue h.0 h.1))

-- a fail
module _ (ms : List Mark) (id : ℕ) (well : AreWellFormed (ms ++ Failed id ∷ [])) where
  abbrev failed : List Mark
  failed = ms ++ Failed id ∷ []

  was_open : IsOpen ms id
  was_open = well ms [] (Failed id) refl

  other_puts : (v : ℤ) (n : Mark) → id_of n ≢ id → puts failed v n ≡ puts ms v n
  other_puts v n ne = same_from_decides (puts failed v n) (puts ms v n) (
    (λ t. (let i : IsPut failed v n = (puts_is failed v n).0 t in (i.0, i.1, i.2, i.3, (λ f. i.4 (kept ms (Failed id) well _ f))))),
    (λ i. (puts_is failed v n).1 (
      i.0,
      i.1,
      i.2,
      i.3,
      (λ f. ⊎_elim
          i.4
          (λ e. (let q : Failed id ≡ Failed i.0 = e in let s : id ≡ i.0 = cc in ne (ap id_of i.2 ∙ sym s)))
          (Contains-push_cases ms (Failed id) _ f)),
    )),
  )
      (puts_is ms v n)

  own_puts_none : (v : ℤ) (n : Mark) → id_of n ≡ id → puts failed v n ≡ false
  own_puts_none v n same = false_from_ne_true (puts failed v n) (λ t. (
      let i : IsPut failed v n = (puts_is failed v n).0 t in
      i.4 (subst (λ k. Contains failed (Failed k)) (sym same ∙ ap id_of i.2) (Contains-push ms (Failed id)))))

  part_same : (v : ℤ) (part : List Mark) → ¬ IsEnqueueOf part id v → enqueued failed v part ≡ enqueued ms v part
  part_same v part none = count_same (puts failed v) (puts ms v) part (λ n h. ⊎_elim
      (λ (same : id_of n ≡ id). own_puts_none v n same ∙ sym (false_from_ne_true (puts ms v n) (λ t. (
      let i : IsPut ms v n = (puts_is ms v n).0 t in
      none (i.1, subst (λ k. Contains part (Invoked k i.1)) (sym (ap id_of i.2) ∙ same) (subst (Contains part) i.2 h), i.3)))))
      (λ ne. other_puts v n ne)
      (cases_eq (id_of n) id))

  pub enqueued_without : (v : ℤ) (front : List Mark) → ¬ IsEnqueueOf front id v → enqueued failed v front ≡ enqueued ms v front
  enqueued_without v front none = part_same v front none

  pub enqueued_with : (v : ℤ) (front rest : List Mark) → front ++ rest ≡ ms → IsEnqueueOf front id v → enqueued failed v front + 1 ≡ enqueued ms v front
  enqueued_with v front rest cut own =
      let op : Op = own.0 in
      let here : Mark = Invoked id op in
      let c = cut_at front here own.1 in
      let a : List Mark = c.0 in
      let b : List Mark = c.1 in
      let before_whole : a ++ (here ∷ (b ++ rest)) ≡ ms = sym (append_assoc a (here ∷ b) rest) ∙ ap (λ l. l ++ rest) (sym c.2) ∙ cut in
      let up_whole : (a ++ here ∷ []) ++ (b ++ rest) ≡ ms = append_assoc a (here ∷ []) (b ++ rest) ∙ before_whole in
      let none_a : ¬ IsEnqueueOf a id v = λ e. not_both ms (well_before ms (Failed id) well) a (here ∷ (b ++ rest)) before_whole id e.0 op e.1 (Contains-head here (b ++ rest)) in
      let none_b : ¬ IsEnqueueOf b id v = λ e. not_both ms (well_before ms (Failed id) well) (a ++ here ∷ []) (b ++ rest) up_whole id op e.0 (Contains-push a here) (Contains-append_left b rest _ e.1) in
      let same_a : enqueued failed v a ≡ enqueued ms v a = part_same v a none_a in
      let same_b : enqueued failed v b ≡ enqueued ms v b = part_same v b none_b in
      let p = count_append (puts failed v) a (here ∷ b) in
      let q = count_cons (puts failed v) here b in
      let r = count_append (puts ms v) a (here ∷ b) in
      let s = count_cons (puts ms v) here b in
      let t : cond {A = ℕ} (puts failed v here) 1 0 ≡ 0 = ap (λ z. cond z 1 0) (own_puts_none v here refl) in
      let u : cond {A = ℕ} (puts ms v here) 1 0 ≡ 1 = ap (λ z. cond z 1 0) ((puts_is ms v here).1 (id, op, refl, own.2, was_open.not_failed)) in
      let e : enqueued failed v front ≡ enqueued failed v (a ++ here ∷ b) = ap (enqueued failed v) c.2 in
      let f : enqueued ms v front ≡ enqueued ms v (a ++ here ∷ b) = ap (enqueued ms v) c.2 in
      omega (arith, same_a, same_b, p, q, r, s, t, u, e, f)

  pub enqueue_or_not : (v : ℤ) (front rest : List Mark) → front ++ rest ≡ ms → IsEnqueueOf front id v ⊎ (¬ IsEnqueueOf front id v)
  enqueue_or_not v front rest cut = ⊎_elim
      (λ i. ⊎_elim
      (λ t. inl (i.0, i.1, (enqueue_is v i.0.name i.0.part).0 t))
      (λ f. inr (λ e. (
      let whole : (n : Mark) → Contains front n → Contains ms n = λ n h. subst (λ l. Contains l n) cut (Contains-append_left front rest n h) in
      let same : i.0 ≡ e.0 = one_op ms (well_before ms (Failed id) well) id i.0 e.0 (whole _ i.1) (whole _ e.1) in
      true≢false (sym ((enqueue_is v i.0.name i.0.part).1 (ap (λ (o : Op). o.name) same ∙ e.2.0, ap (λ (o : Op). o.part) same ∙ e.2.1)) ∙ f))))
      (cases_Bool (is_enqueue_of v i.0.name i.0.part)))
      (λ n. inr (λ e. n (e.0, e.1)))
      (invoked_or_not front id)

  may_fail : IsBalanced failed → MayFail ms id
  may_fail balanced v front rest cut own =
      let le : dequeued failed v front ≤ enqueued failed v front = balanced.covered v front (rest ++ Failed id ∷ []) (extended ms (Failed id) well front rest cut) in
      let a = dequeued_same ms (Failed id) well v front rest cut in
      let b = enqueued_with v front rest cut own in
      omega (arith, le, a, b)

  pub dequeued_failed : (v : ℤ) → dequeued failed v failed ≡ dequeued ms v ms
  dequeued_failed v = let a = dequeued_all ms (Failed id) well v in omega (arith, a)

  pub enqueued_failed : (v : ℤ) → enqueued failed v failed ≡ enqueued failed v ms
  enqueued_failed v = let a : enqueued failed v failed ≡ enqueued failed v ms + 0 = count_push (puts failed v) ms (Failed id) in omega (arith, a)

  covered_before : IsBalanced ms → MayFail ms id → (v : ℤ) (front rest : List Mark) → front ++ rest ≡ ms → dequeued failed v front ≤ enqueued failed v front
  covered_before balanced may v front rest cut =
      let le : dequeued ms v front ≤ enqueued ms v front = balanced.covered v front rest cut in
      let a = dequeued_same ms (Failed id) well v front rest cut in
      ⊎_elim
      (λ own. (let lt : dequeued ms v front < enqueued ms v front = may v front rest cut own in let b = enqueued_with v front rest cut own in omega (arith, lt, a, b)))
      (λ none. (let b = enqueued_without v front none in omega (arith, le, a, b)))
      (enqueue_or_not v front rest cut)

  with_fail : IsBalanced ms → MayFail ms id → IsBalanced failed
  with_fail balanced may = record {
    known = known_is ms (Failed id) well balanced.known (λ n a e. (let q : Failed id ≡ Returned n a = e in cc));
    covered = λ v front rest cut. ⊎_elim
        (λ (e : front ≡ failed). subst (λ l. dequeued failed v l ≤ enqueued failed v l) (sym e) (
        let le = covered_before balanced may v ms [] (append-nil ms) in
        let a : dequeued failed v failed ≡ dequeued ms v ms = dequeued_failed v in
        let b : dequeued failed v ms ≡ dequeued ms v ms = dequeued_same ms (Failed id) well v ms [] (append-nil ms) in
        let c = enqueued_failed v in
        omega (arith, le, a, b, c)))
        (λ c. covered_before balanced may v front c.0 c.1)
        (cuts ms (Failed id) well front rest cut);
  }

  pub balanced_after_fail : IsBalanced failed ↔ (IsBalanced ms × MayFail ms id)
  balanced_after_fail = ((λ b. (balanced_was ms (Failed id) well b, may_fail b)), (λ h. with_fail h.0 h.1))

-- an invocation and a crash
pub balanced_after_invoke : (ms : List Mark) (id : ℕ) (op : Op) → AreWellFormed (ms ++ Invoked id op ∷ []) → IsBalanced (ms ++ Invoked id op ∷ []) ↔ IsBalanced ms
balanced_after_invoke ms id op well = (
  balanced_was ms (Invoked id op) well,
  quiet ms (Invoked id op) well (λ n e. (let q : Invoked id op ≡ Failed n = e in cc)) (λ v. refl) (λ n a e. (let q : Invoked id op ≡ Returned n a = e in cc)),
)

pub balanced_after_crash : (ms : List Mark) (id : ℕ) → AreWellFormed (ms ++ Crashed id ∷ []) → IsBalanced (ms ++ Crashed id ∷ []) ↔ IsBalanced ms
balanced_after_crash ms id well = (
  balanced_was ms (Crashed id) well,
  quiet ms (Crashed id) well (λ n e. (let q : Crashed id ≡ Failed n = e in cc)) (λ v. refl) (λ n a e. (let q : Crashed id ≡ Returned n a = e in cc)),
)
