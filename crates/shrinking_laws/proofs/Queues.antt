-- some values left out of the history of a queue with an order
use Rattle.std.proofs.Common.{◌≡◌, ◌≢◌, ℕ, ◌+◌, ◌≤◌, ℤ, ◌⊎◌, inl, inr, ⊎_elim, Bool, true, false, not, cond, List, [], ◌∷◌, ◌++◌, length, refl, sym, ap, ◌∙◌, subst, arith}
use Rattle.std.specs.Ordering.{int_eq}
use Rattle.std.specs.List.{filter, Contains}
use Rattle.std.proofs.lemmas.Bool.{cases_Bool, true≢false}
use Rattle.std.proofs.lemmas.List.{append-nil}
use Rattle.std.proofs.lemmas.List.Elements.{Contains-append_right, filter-append}
use Rattle.std.proofs.lemmas.List.Sums.{sum_by-cons}
use Rattle.models.specs.declared.operation.Name.{Name}
use Rattle.models.specs.declared.operation.Name.TheVariants.{Enqueue, Dequeue}
use Rattle.models.specs.declared.operation.Part.{Part}
use Rattle.models.specs.declared.operation.Part.TheVariants.{Nil, Int}
use Rattle.models.specs.declared.operation.Op.{Op}
use Rattle.models.specs.declared.finding.Found.{Found}
use Rattle.models.specs.declared.finding.Found.TheVariants.{Unit as Done, Item}
use Rattle.models.specs.declared.finding.Answer.{Answer}
use Rattle.models.specs.declared.finding.Answer.TheVariants.{Nothing, Number, Numbers, Many}
use Rattle.models.specs.Objects.{IsOneOf, Fits, queue_apply, fifo_queue}
use Rattle.models.specs.Runs.{times_in}
use Rattle.values.proofs.Bags.{same_int}
use Rattle.models.proofs.Steps.{same_outcome}
use Rattle.events.specs.Events.{Mark}
use Rattle.events.specs.Events.Mark.{Invoked, Returned, Failed}
use Rattle.linspec.specs.MarkRule.{AreWellFormed}
use Rattle.linspec.specs.Operations.{HasReturned}
use Rattle.linspec.specs.Orders.{Taken, Includes, Run, IsLegalOrder, IsLinearizable}
use Rattle.linspec.proofs.Lists.{Contains-head, Contains-cons_cases}
use Rattle.linspec.proofs.Filters.{filter-yes, filter-no, Pairwise-filter}
use Rattle.linspec.proofs.Counts.{no_longer_than}
use Rattle.linspec.proofs.Fates.{returned_or_not}
use Rattle.shrinking_laws.specs.LeftOut.{without}
use Rattle.shrinking_laws.specs.Queues.{IsSpare, AreOfValues}
use Rattle.shrinking_laws.proofs.Matching.{Matches, simulated}
use Rattle.shrinking_laws.proofs.Once.{one_op}
use Rattle.shrinking_laws.proofs.LeftOut.{step_of, MayGo, Stays, IsLinearizable-rest}
use Rattle.shrinking_laws.proofs.Counting.{puts, takes, ids_of, count, puts_is, takes_is, puts_none, takes_none, from_ids, to_ids, each_once, named_enqueue}

-- the possible steps
abbrev IsEnqueue : Name → Part → List ℤ → Found → List ℤ → Type 0
IsEnqueue name part s found t = (v : ℤ) × (name ≡ Enqueue) × (part ≡ Int v) × (t ≡ s ++ v ∷ []) × (found ≡ Done)

abbrev IsDequeue : Name → Part → List ℤ → Found → List ℤ → Type 0
IsDequeue name part s found t = (v : ℤ) × (name ≡ Dequeue) × (part ≡ Nil) × (s ≡ v ∷ t) × (found ≡ Item v)

dequeue_view : (s t : List ℤ) (found : Found) → IsOneOf (queue_apply Dequeue Nil s) (t, found) → IsDequeue Dequeue Nil s found t
dequeue_view [] t found h = absurd h
dequeue_view (v ∷ s) t found h = let e = same_outcome (s, Item v) (t, found) h in (v, refl, refl, ap (λ l. v ∷ l) e.0, sym e.1)

queue_view : (name : Name) (part : Part) (s t : List ℤ) (found : Found) → IsOneOf (queue_apply name part s) (t, found) → IsEnqueue name part s found t ⊎ IsDequeue name part s found t
queue_view Enqueue (Int v) s t found h = let e = same_outcome (s ++ v ∷ [], Done) (t, found) h in inl (v, refl, refl, sym e.0, sym e.1)
queue_view Dequeue Nil s t found h = inr (dequeue_view s t found h)
queue_view _ _ s t found h = absurd h

by_enqueue : (name : Name) (part : Part) (s t : List ℤ) (found : Found) → IsEnqueue name part s found t → IsOneOf (queue_apply name part s) (t, found)
by_enqueue name part s t found h =
    subst (λ n. IsOneOf (queue_apply n part s) (t, found)) (sym h.1)
    (subst (λ p. IsOneOf (queue_apply Enqueue p s) (t, found)) (sym h.2)
    (inl (λ i. (sym h.3 i, sym h.4 i))))

by_dequeue : (name : Name) (part : Part) (s t : List ℤ) (found : Found) → IsDequeue name part s found t → IsOneOf (queue_apply name part s) (t, found)
by_dequeue name part s t found h =
    subst (λ n. IsOneOf (queue_apply n part s) (t, found)) (sym h.1)
    (subst (λ p. IsOneOf (queue_apply Dequeue p s) (t, found)) (sym h.2)
    (subst (λ l. IsOneOf (queue_apply Dequeue Nil l) (t, found)) (sym h.3)
    (inl (λ i. (t, sym h.4 i)))))

times_cons : (w x : ℤ) (xs : List ℤ) → times_in w (x ∷ xs) ≡ cond (int_eq x w) 1 0 + times_in w xs
times_cons w x xs = sum_by-cons (λ y. cond (int_eq y w) 1 0) x xs

times_push : (w v : ℤ) (s : List ℤ) → times_in w (s ++ v ∷ []) ≡ cond (int_eq v w) 1 0 + times_in w s
times_push w v [] = times_cons w v []
times_push w v (x ∷ s) = let rest = times_push w v s in let a = times_cons w x (s ++ v ∷ []) in let b = times_cons w x s in omega arith

-- a value that was put in and not taken out is in
one_step : (v : ℤ) (x : Taken) (s t : List ℤ) → fifo_queue.Steps s x.op x.found t → cond (puts v x) 1 0 + times_in v s ≡ cond (takes v x) 1 0 + times_in v t
one_step v x s t step = ⊎_elim
    (λ k.
    let put : cond {A = ℕ} (puts v x) 1 0 ≡ cond (int_eq k.0 v) 1 0 = ap (λ b. cond b 1 0) (puts_is v k.0 x k.1 k.2) in
    let none : cond {A = ℕ} (takes v x) 1 0 ≡ 0 = ap (λ b. cond b 1 0) (takes_none v x k.1) in
    let after : times_in v t ≡ cond (int_eq k.0 v) 1 0 + times_in v s = ap (times_in v) k.3 ∙ times_push v k.0 s in
    omega (arith, put, none, after))
    (λ k.
    let none : cond {A = ℕ} (puts v x) 1 0 ≡ 0 = ap (λ b. cond b 1 0) (puts_none v x k.1) in
    let taken : cond {A = ℕ} (takes v x) 1 0 ≡ cond (int_eq k.0 v) 1 0 = ap (λ b. cond b 1 0) (takes_is v k.0 x k.1 k.4) in
    let before : times_in v s ≡ cond (int_eq k.0 v) 1 0 + times_in v t = ap (times_in v) k.3 ∙ times_cons v k.0 t in
    omega (arith, none, taken, before))
    (queue_view x.op.name x.op.part s t x.found step)

counted : (v : ℤ) (order : List Taken) (s t : List ℤ) → Run fifo_queue s order t → length (ids_of (puts v) order) + times_in v s ≡ length (ids_of (takes v) order) + times_in v t
counted v [] s t run = ap (λ l. 0 + times_in v l) run
counted v (x ∷ order) s t run =
    let first = one_step v x s run.0 run.1 in
    let rest = counted v order run.0 t run.2 in
    let put = count (puts v) x order in
    let taken = count (takes v) x order in
    omega (arith, first, rest, put, taken)

item_answer : (v : ℤ) (answer : Answer) → Fits (Item v) answer → answer ≡ Number v
item_answer v Nothing h = absurd h
item_answer v (Number a) h = ap Number (sym h)
item_answer v (Numbers a b) h = absurd h
item_answer v (Many members) h = absurd h

module _ (values : ℤ → Bool) (ms : List Mark) (well : AreWellFormed ms) (out : ℕ → Bool) (are : AreOfValues values out ms) where
  abbrev stays : ℤ → Bool
  stays v = not (values v)

  abbrev rest_of : List ℤ → List ℤ
  rest_of s = filter stays s

  rest-push : (s : List ℤ) (v : ℤ) → values v ≡ false → rest_of (s ++ v ∷ []) ≡ rest_of s ++ v ∷ []
  rest-push s v e = filter-append stays s (v ∷ []) ∙ ap (λ l. rest_of s ++ l) (filter-yes stays v [] (ap not e))

  rest-push_gone : (s : List ℤ) (v : ℤ) → values v ≡ true → rest_of (s ++ v ∷ []) ≡ rest_of s
  rest-push_gone s v e = filter-append stays s (v ∷ []) ∙ ap (λ l. rest_of s ++ l) (filter-no stays v [] (ap not e)) ∙ append-nil (rest_of s)

  module _ (order : List Taken) (end : List ℤ) (l : IsLegalOrder fifo_queue ms order end) where
    -- a dequeue that has answered v has found it
    answered_takes : (v : ℤ) (id : ℕ) → ((op : Op) × Contains ms (Invoked id op) × (op.name ≡ Dequeue)) → Contains ms (Returned id (Number v)) → Contains (ids_of (takes v) order) id
    answered_takes v id op d =
        let i : Includes order id = l.all_done id (Number v, d) in
        let z : Taken = i.0 in
        let fits : Fits z.found (Number v) = l.fits z (Number v) i.1 (subst (λ n. Contains ms (Returned n (Number v))) (sym i.2) d) in
        let same : op.0 ≡ z.op = one_op ms well id op.0 z.op op.1 (subst (λ n. Contains ms (Invoked n z.op)) i.2 (l.invoked z i.1)) in
        let name : z.op.name ≡ Dequeue = ap (λ (p : Op). p.name) (sym same) ∙ op.2 in
        let step = step_of fifo_queue order [] end l.run z i.1 in
        subst (Contains (ids_of (takes v) order)) i.2
        (⊎_elim
        (λ k. (let clash : Dequeue ≡ Enqueue = sym name ∙ k.1 in absurd (let none : ⊥ = cc in none)))
        (λ k.
        let is : k.0 ≡ v = subst (λ f. Fits f (Number v)) k.4 fits in
        to_ids (takes v) order z i.1 (takes_is v k.0 z k.1 k.4 ∙ same_int k.0 v is))
        (queue_view z.op.name z.op.part step.0 step.1 z.found step.2))

    -- a value that an unanswered dequeue has found is spare
    spare : (v : ℤ) (x : Taken) → Contains order x → takes v x ≡ true → (¬ HasReturned ms x.id) → IsSpare ms v
    spare v x there found unanswered =
        let whole = counted v order [] end l.run in
        let none : times_in v [] ≡ 0 = refl in (
          ids_of (puts v) order,
          record {
            once = each_once (filter (puts v) order) (Pairwise-filter (puts v) (λ x y. x.id ≢ y.id) order l.once);
            each = λ id h. (
                let r = from_ids (puts v) order id h in
                let is = named_enqueue v r.0.op.name r.0.op.part r.2 in (
                  (r.0.op, subst (λ n. Contains ms (Invoked n r.0.op)) r.3 (l.invoked r.0 r.1), is),
                  (λ f. l.none_failed r.0 r.1 (subst (λ n. Contains ms (Failed n)) (sym r.3) f)),
                ));
          },
          (λ dequeues those.
              let fewer : length (x.id ∷ dequeues) ≤ length (ids_of (takes v) order) = no_longer_than (x.id ∷ dequeues) (ids_of (takes v) order)
              ((λ id h e. unanswered (Number v, subst (λ n. Contains ms (Returned n (Number v))) (sym e) (those.each id h).1)), those.once)
              (λ id h. ⊎_elim
              (λ e. subst (Contains (ids_of (takes v) order)) e (to_ids (takes v) order x there found))
              (λ k. let d = those.each id k in answered_takes v id d.0 d.1)
              (Contains-cons_cases x.id dequeues id h)) in
              omega (arith, whole, none, fewer)),
        )

    module _ (x : Taken) (there : Contains order x) (s t w : List ℤ) (is : rest_of s ≡ w) (step : fifo_queue.Steps s x.op x.found t) where
      abbrev Next : Type 0
      Next = (MayGo out ms x × (rest_of t ≡ w)) ⊎ ((y : Taken) × (u : List ℤ) × Stays out ms x y × fifo_queue.Steps w y.op y.found u × (rest_of t ≡ u))

      kept : out x.id ≡ false → Stays out ms x x
      kept e = record { stays = e; id = refl; op = refl; fits = λ answer d. l.fits x answer there d }

      unless : (out x.id ≡ true → ⊥) → out x.id ≡ false
      unless h = ⊎_elim (λ e. absurd (h e)) (λ e. e) (cases_Bool (out x.id))

      enqueue : IsEnqueue x.op.name x.op.part s x.found t → Next
      enqueue k =
          let told = are.enqueues x.id x.op k.0 (l.invoked x there) (k.1, k.2) in
          ⊎_elim
          (λ e. inl (inl (told.1 e), ap rest_of k.3 ∙ rest-push_gone s k.0 e ∙ is))
          (λ e. inr (
            x,
            w ++ k.0 ∷ [],
            kept (unless (λ o. true≢false (sym (told.0 o) ∙ e))),
            by_enqueue x.op.name x.op.part w (w ++ k.0 ∷ []) x.found (k.0, k.1, k.2, refl, k.4),
            ap rest_of k.3 ∙ rest-push s k.0 e ∙ ap (λ z. z ++ k.0 ∷ []) is,
          ))
          (cases_Bool (values k.0))

      -- its answer, if it has one, is what it found
      answered : (k : IsDequeue x.op.name x.op.part s x.found t) → HasReturned ms x.id → Contains ms (Returned x.id (Number k.0))
      answered k d = subst (λ a. Contains ms (Returned x.id a)) (item_answer k.0 d.0 (subst (λ f. Fits f d.0) k.4 (l.fits x d.0 there d.1))) d.1

      goes : (k : IsDequeue x.op.name x.op.part s x.found t) → values k.0 ≡ true → MayGo out ms x
      goes k e = ⊎_elim
          (λ d. inl ((are.dequeues x.id x.op k.0 (l.invoked x there) k.1 (answered k d)).1 e))
          (λ n. inr n)
          (returned_or_not ms x.id)

      stays_there : (k : IsDequeue x.op.name x.op.part s x.found t) → values k.0 ≡ false → out x.id ≡ false
      stays_there k e = unless (λ o. ⊎_elim
          (λ d. true≢false (sym ((are.dequeues x.id x.op k.0 (l.invoked x there) k.1 (answered k d)).0 o) ∙ e))
          (λ n. true≢false (sym (are.unanswered x.id x.op k.0 (l.invoked x there) k.1 n o (spare k.0 x there (takes_is k.0 k.0 x k.1 k.4 ∙ same_int k.0 k.0 refl) n)) ∙ e))
          (returned_or_not ms x.id))

      dequeue : IsDequeue x.op.name x.op.part s x.found t → Next
      dequeue k = ⊎_elim
          (λ e. inl (goes k e, sym (ap rest_of k.3 ∙ filter-no stays k.0 t (ap not e)) ∙ is))
          (λ e. inr (
            x,
            rest_of t,
            kept (stays_there k e),
            by_dequeue x.op.name x.op.part w (rest_of t) x.found (k.0, k.1, k.2, sym is ∙ ap rest_of k.3 ∙ filter-yes stays k.0 t (ap not e), k.4),
            refl,
          ))
          (cases_Bool (values k.0))

      next : Next
      next = ⊎_elim enqueue dequeue (queue_view x.op.name x.op.part s t x.found step)

    rest_runs : (other : List Taken) × (u : List ℤ) × Matches (MayGo out ms) (Stays out ms) order other × Run fifo_queue [] other u
    rest_runs = simulated fifo_queue fifo_queue (MayGo out ms) (Stays out ms) (λ before s w. rest_of s ≡ w) order
        (λ before after x s t w whole is step. next x (subst (λ k. Contains k x) whole (Contains-append_right before (x ∷ after) x (Contains-head x after))) s t w is step)
        [] order [] end [] refl refl l.run

  pub IsLinearizable-without_queue_values : IsLinearizable fifo_queue ms → IsLinearizable fifo_queue (without out ms)
  IsLinearizable-without_queue_values h = IsLinearizable-rest out fifo_queue ms (λ order s l. rest_runs order s l) h
