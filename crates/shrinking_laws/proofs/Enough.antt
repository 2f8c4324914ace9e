-- the history of a queue without an order is linearizable where no value runs out, and only there
use Rattle.std.proofs.Common.{◌≡◌, ◌≢◌, ◌↔◌, ℕ, suc, ◌+◌, ◌≤◌, ℤ, ◌⊎◌, inl, inr, ⊎_elim, true, cond, List, [], ◌∷◌, ◌++◌, length, refl, sym, ap, ◌∙◌, subst, append_assoc, arith}
use Rattle.std.specs.Ordering.{int_eq}
use Rattle.std.specs.List.{filter, Contains}
use Rattle.std.proofs.lemmas.Bool.{cases_Bool, true≢false}
use Rattle.std.proofs.lemmas.List.{append-nil}
use Rattle.std.proofs.lemmas.List.Elements.{Contains-append_left, Contains-append_cases, Contains-push, Contains-push_cases}
use Rattle.models.specs.declared.operation.Name.{Name}
use Rattle.models.specs.declared.operation.Name.TheVariants.{Enqueue, Dequeue}
use Rattle.models.specs.declared.operation.Part.{Part}
use Rattle.models.specs.declared.operation.Part.TheVariants.{Int}
use Rattle.models.specs.declared.operation.Op.{Op}
use Rattle.models.specs.declared.finding.Found.TheVariants.{Unit as Done, Item}
use Rattle.models.specs.declared.finding.Answer.{Answer}
use Rattle.models.specs.declared.finding.Answer.TheVariants.{Number}
use Rattle.values.specs.Multisets.{with_one, without_one}
use Rattle.models.specs.Objects.{Fits, unordered_queue}
use Rattle.models.specs.Runs.{times_in}
use Rattle.events.specs.Events.{Mark, IsPrefixOf}
use Rattle.events.specs.Events.Mark.{Invoked, Returned, Failed, Crashed}
use Rattle.linspec.specs.MarkRule.{IsNew, AreWellFormed}
use Rattle.linspec.specs.Operations.{IsInvoked, HasReturned, IsOpen, Precedes}
use Rattle.linspec.specs.Orders.{Taken, Includes, Pairwise, Run, IsLegalOrder, IsLinearizable}
use Rattle.linspec.proofs.Lists.{Contains-nil, Contains-head, Contains-cons_cases, Pairwise-append, Pairwise-across, Pairwise-left, cut_at}
use Rattle.linspec.proofs.Filters.{two_cuts, Pairwise-filter}
use Rattle.linspec.proofs.Marks.{Run-append, Run-cut}
use Rattle.linspec.proofs.Counts.{no_longer_than}
use Rattle.linspec.proofs.Fates.{returned_or_not, failed_or_not}
use Rattle.shrinking_laws.specs.Queues.{Enqueues, AreEnqueuesIn, AreDequeuesOf}
use Rattle.shrinking_laws.specs.Counts.{AreQueueOperations, HasEnough, NeverRunsOut}
use Rattle.shrinking_laws.proofs.Once.{one_op, one_answer, returned_not_failed, returned_invoked}
use Rattle.shrinking_laws.proofs.LeftOut.{step_of}
use Rattle.shrinking_laws.proofs.Multisets.{times_with, times_without, in_if_counted, unordered_view, by_enqueue, by_dequeue}
use Rattle.shrinking_laws.proofs.Counting.{puts, takes, ids_of, count, puts_is, takes_is, puts_none, takes_none, puts_it, takes_it, from_ids, to_ids, each_once, named_enqueue, named_dequeue}

-- a value that was put in and not taken out is in
one_step : (v : ℤ) (x : Taken) (s t : List ℤ) → unordered_queue.Steps s x.op x.found t → cond (puts v x) 1 0 + times_in v s ≡ cond (takes v x) 1 0 + times_in v t
one_step v x s t step = ⊎_elim
    (λ k.
    let put : cond {A = ℕ} (puts v x) 1 0 ≡ cond (int_eq k.0 v) 1 0 = ap (λ b. cond b 1 0) (puts_is v k.0 x k.1 k.2) in
    let none : cond {A = ℕ} (takes v x) 1 0 ≡ 0 = ap (λ b. cond b 1 0) (takes_none v x k.1) in
    let after : times_in v t ≡ cond (int_eq k.0 v) 1 0 + times_in v s = ap (times_in v) k.3 ∙ times_with v k.0 s in
    omega (arith, put, none, after))
    (λ k.
    let none : cond {A = ℕ} (puts v x) 1 0 ≡ 0 = ap (λ b. cond b 1 0) (puts_none v x k.1) in
    let taken : cond {A = ℕ} (takes v x) 1 0 ≡ cond (int_eq k.0 v) 1 0 = ap (λ b. cond b 1 0) (takes_is v k.0 x k.1 k.5) in
    let before : times_in v s ≡ cond (int_eq k.0 v) 1 0 + times_in v (without_one k.0 s) = times_without v k.0 s k.3 in
    let after : times_in v t ≡ times_in v (without_one k.0 s) = ap (times_in v) k.4 in
    omega (arith, none, taken, before, after))
    (unordered_view x.op.name x.op.part s t x.found step)

counted : (v : ℤ) (order : List Taken) (s t : List ℤ) → Run unordered_queue s order t → length (ids_of (puts v) order) + times_in v s ≡ length (ids_of (takes v) order) + times_in v t
counted v [] s t run = ap (λ l. 0 + times_in v l) run
counted v (x ∷ order) s t run =
    let first = one_step v x s run.0 run.1 in
    let rest = counted v order run.0 t run.2 in
    let put = count (puts v) x order in
    let taken = count (takes v) x order in
    omega (arith, first, rest, put, taken)

-- the last element of a list of which Q holds, if there is one
last_of : {X : Type 0} (Q : X → Type 0) → ((x : X) → Q x ⊎ (¬ Q x)) → (xs : List X)
    → ((before : List X) × (x : X) × (after : List X) × (xs ≡ before ++ x ∷ after) × Q x × ((y : X) → Contains after y → ¬ Q y)) ⊎ ((y : X) → Contains xs y → ¬ Q y)
last_of Q dec [] = inr (λ y h. absurd (Contains-nil y h))
last_of Q dec (x ∷ xs) = ⊎_elim
    (λ k. inl (x ∷ k.0, k.1, k.2, ap (λ l. x ∷ l) k.3, k.4, k.5))
    (λ none. ⊎_elim
    (λ q. inl ([], x, xs, refl, q, none))
    (λ n. inr (λ y h. ⊎_elim (λ e. subst (λ z. ¬ Q z) e n) (none y) (Contains-cons_cases x xs y h)))
    (dec x))
    (last_of Q dec xs)

enqueues_or_not : (name : Name) (part : Part) → ((v : ℤ) × ((name ≡ Enqueue) × (part ≡ Int v))) ⊎ ((v : ℤ) → ¬ ((name ≡ Enqueue) × (part ≡ Int v)))
enqueues_or_not Enqueue (Int v) = inl (v, (refl, refl))
enqueues_or_not _ _ = inr (λ v h. (let e = h.0 in let f = h.1 in cc))

module _ (ms : List Mark) (well : AreWellFormed ms) where
  -- who is invoked in a front is not preceded by who has not returned there
  not_preceded : (front rest : List Mark) → front ++ rest ≡ ms → (a b : ℕ) → IsInvoked front b → ¬ HasReturned front a → ¬ Precedes ms a b
  not_preceded front rest whole a b i n p =
      ⊎_elim
      (λ (f : IsPrefixOf p.before front). n (p.returned.0, subst (λ l. Contains l (Returned a p.returned.0)) f.1 (Contains-append_left p.before f.0 _ p.returned.1)))
      (λ (f : IsPrefixOf front p.before).
      let c = cut_at p.after (Invoked b p.invoked.0) p.invoked.1 in
      let new : IsNew (p.before ++ c.0) b = well (p.before ++ c.0) c.1 (Invoked b p.invoked.0) (append_assoc p.before c.0 (Invoked b p.invoked.0 ∷ c.1) ∙ ap (λ l. p.before ++ l) (sym c.2) ∙ p.cut) in
      new (Invoked b i.0) (Contains-append_left p.before c.0 _ (subst (λ l. Contains l (Invoked b i.0)) f.1 (Contains-append_left front f.0 _ i.1))) refl)
      (two_cuts p.before p.after front rest (p.cut ∙ sym whole))

  -- an order never has a value that has run out
  module _ (order : List Taken) (end : List ℤ) (l : IsLegalOrder unordered_queue ms order end) (front rest : List Mark) (whole : front ++ rest ≡ ms) (v : ℤ) where
    in_history : (m : Mark) → Contains front m → Contains ms m
    in_history m h = subst (λ k. Contains k m) whole (Contains-append_left front rest m h)

    abbrev TakesBy : Taken → Type 0
    TakesBy x = (takes v x ≡ true) × HasReturned front x.id

    takes_or_not : (x : Taken) → TakesBy x ⊎ (¬ TakesBy x)
    takes_or_not x = ⊎_elim
        (λ e. ⊎_elim (λ d. inl (e, d)) (λ n. inr (λ h. n h.1)) (returned_or_not front x.id))
        (λ e. inr (λ h. true≢false (sym h.0 ∙ e)))
        (cases_Bool (takes v x))

    -- each dequeue that has answered v in the front
    its_place : (id : ℕ) → ((op : Op) × Contains front (Invoked id op) × (op.name ≡ Dequeue)) → Contains front (Returned id (Number v)) → (x : Taken) × Contains order x × TakesBy x × (x.id ≡ id)
    its_place id op d =
        let i : Includes order id = l.all_done id (Number v, in_history _ d) in
        let z : Taken = i.0 in
        let fits : Fits z.found (Number v) = l.fits z (Number v) i.1 (subst (λ n. Contains ms (Returned n (Number v))) (sym i.2) (in_history _ d)) in
        let same : op.0 ≡ z.op = one_op ms well id op.0 z.op (in_history _ op.1) (subst (λ n. Contains ms (Invoked n z.op)) i.2 (l.invoked z i.1)) in
        let name : z.op.name ≡ Dequeue = ap (λ (p : Op). p.name) (sym same) ∙ op.2 in
        let step = step_of unordered_queue order [] end l.run z i.1 in (
          z,
          i.1,
          (
            ⊎_elim
                (λ k. (let clash : Dequeue ≡ Enqueue = sym name ∙ k.1 in absurd (let none : ⊥ = cc in none)))
                (λ k. takes_it v z k.1 (k.5 ∙ ap Item (subst (λ f. Fits f (Number v)) k.5 fits)))
                (unordered_view z.op.name z.op.part step.0 step.1 z.found step.2),
            (Number v, subst (λ n. Contains front (Returned n (Number v))) (sym i.2) d),
          ),
          i.2,
        )

    order_has_enough : HasEnough ms front front v
    order_has_enough dequeues those = ⊎_elim some none (last_of TakesBy takes_or_not order)
      where
        none : ((y : Taken) → Contains order y → ¬ TakesBy y) → (enqueues : List ℕ) × AreEnqueuesIn front ms v enqueues × (length dequeues ≤ length enqueues)
        none no_take = (
          [],
          record { once = tt; each = λ id h. absurd (Contains-nil id h) },
          no_longer_than dequeues [] those.once (λ id h. (let d = those.each id h in let p = its_place id d.0 d.1 in absurd (no_take p.0 p.1 p.2))),
        )

        some : ((before : List Taken) × (z : Taken) × (after : List Taken) × (order ≡ before ++ z ∷ after) × TakesBy z × ((y : Taken) → Contains after y → ¬ TakesBy y))
            → (enqueues : List ℕ) × AreEnqueuesIn front ms v enqueues × (length dequeues ≤ length enqueues)
        some cut =
            let before : List Taken = cut.0 in
            let z : Taken = cut.1 in
            let after : List Taken = cut.2 in
            let up_to : List Taken = before ++ z ∷ [] in
            let parts : order ≡ up_to ++ after = cut.3 ∙ sym (append_assoc before (z ∷ []) after) in
            let run : (u : List ℤ) × Run unordered_queue [] up_to u × Run unordered_queue u after end = Run-cut unordered_queue [] end up_to after (subst (λ k. Run unordered_queue [] k end) parts l.run) in
            let sums = counted v up_to [] run.0 run.1 in
            let nothing : times_in v [] ≡ 0 = refl in
            let fewer : length dequeues ≤ length (ids_of (takes v) up_to) = no_longer_than dequeues (ids_of (takes v) up_to) those.once
            (λ id h.
            let d = those.each id h in
            let p = its_place id d.0 d.1 in
            subst (Contains (ids_of (takes v) up_to)) p.3 (to_ids (takes v) up_to p.0
            (⊎_elim (λ k. k) (λ k. absurd (cut.5 p.0 k p.2)) (Contains-append_cases up_to after p.0 (subst (λ k. Contains k p.0) parts p.1))) p.2.0)) in (
              ids_of (puts v) up_to,
              record {
                once = each_once (filter (puts v) up_to) (Pairwise-filter (puts v) (λ x y. x.id ≢ y.id) up_to (Pairwise-left (λ x y. x.id ≢ y.id) up_to after (subst (Pairwise (λ x y. x.id ≢ y.id)) parts l.once)));
                each = λ id h. (
                    let r = from_ids (puts v) up_to id h in
                    let x : Taken = r.0 in
                    let is = named_enqueue v x.op.name x.op.part r.2 in
                    let there : Contains order x = subst (λ k. Contains k x) (sym parts) (Contains-append_left up_to after x r.1) in
                    let early : Contains before x = ⊎_elim (λ k. k) (λ (e : z ≡ x).
                    (let name : x.op.name ≡ Dequeue = subst (λ (w : Taken). w.op.name ≡ Dequeue) e (named_dequeue v z.op.name z.found cut.4.0).0 in let clash : Enqueue ≡ Dequeue = sym is.0 ∙ name in absurd (let no_way : ⊥ = cc in no_way)))
                    (Contains-push_cases before z x r.1) in
                    let not_before : ¬ Precedes ms z.id x.id = Pairwise-across (λ x y. ¬ Precedes ms y.id x.id) before (z ∷ after) (subst (Pairwise (λ x y. ¬ Precedes ms y.id x.id)) cut.3 l.in_time) x z early (Contains-head z after) in
                    let invoked : Contains front (Invoked x.id x.op) = ⊎_elim
                    (λ k. k)
                    (λ k. absurd (not_before (record { before = front; after = rest; cut = whole; returned = cut.4.1; invoked = (x.op, k) })))
                    (Contains-append_cases front rest (Invoked x.id x.op) (subst (λ k. Contains k (Invoked x.id x.op)) (sym whole) (l.invoked x there))) in (
                      (x.op, subst (λ n. Contains front (Invoked n x.op)) r.3 invoked, is),
                      (λ f. l.none_failed x there (subst (λ n. Contains ms (Failed n)) (sym r.3) f)),
                    ));
              },
              omega (arith, sums, nothing, fewer),
            )

  pub never_runs_out : IsLinearizable unordered_queue ms → NeverRunsOut ms
  never_runs_out h front v is = order_has_enough h.0 h.1 h.2 front is.0 is.1 v

  -- each enqueue as it is invoked, each dequeue as it answers
  module _ (are : AreQueueOperations ms) (never : NeverRunsOut ms) where
    abbrev IsPut : List Mark → Taken → Type 0
    IsPut front x = (v : ℤ) × Contains front (Invoked x.id x.op) × Enqueues x.op v × (x.found ≡ Done) × (¬ Contains ms (Failed x.id))

    abbrev IsTake : List Mark → Taken → Type 0
    IsTake front x = (v : ℤ) × Contains front (Invoked x.id x.op) × (x.op.name ≡ Dequeue) × (x.found ≡ Item v) × Contains front (Returned x.id (Number v))

    record Filled (front : List Mark) (order : List Taken) (s : List ℤ) : Type 0 where
      run : Run unordered_queue [] order s
      once : Pairwise (λ x y. x.id ≢ y.id) order
      in_time : Pairwise (λ x y. ¬ Precedes ms y.id x.id) order
      each : (x : Taken) → Contains order x → IsPut front x ⊎ IsTake front x
      puts_all : (id : ℕ) (op : Op) (v : ℤ) → Contains front (Invoked id op) → Enqueues op v → ¬ Contains ms (Failed id) → Includes order id
      takes_all : (id : ℕ) (op : Op) (v : ℤ) → Contains ms (Invoked id op) → op.name ≡ Dequeue → Contains front (Returned id (Number v)) → Includes order id

    module _ (front rest : List Mark) (m : Mark) (whole : front ++ m ∷ rest ≡ ms) where
      abbrev longer : List Mark
      longer = front ++ m ∷ []

      whole_longer : longer ++ rest ≡ ms
      whole_longer = append_assoc front (m ∷ []) rest ∙ whole

      still : (n : Mark) → Contains front n → Contains longer n
      still n h = Contains-append_left front (m ∷ []) n h

      in_ms : (n : Mark) → Contains longer n → Contains ms n
      in_ms n h = subst (λ k. Contains k n) whole_longer (Contains-append_left longer rest n h)

      still_each : (x : Taken) → IsPut front x ⊎ IsTake front x → IsPut longer x ⊎ IsTake longer x
      still_each x h = ⊎_elim
          (λ k. inl (k.0, still _ k.1, k.2, k.3, k.4))
          (λ k. inr (k.0, still _ k.1, k.2, k.3, still _ k.4))
          h

      invoked_there : (x : Taken) → IsPut front x ⊎ IsTake front x → Contains front (Invoked x.id x.op)
      invoked_there x h = ⊎_elim (λ k. k.1) (λ k. k.1) h

      module _ (order : List Taken) (s : List ℤ) (filled : Filled front order s) where
        -- the mark changes nothing
        pass : ((id : ℕ) (op : Op) (v : ℤ) → m ≡ Invoked id op → Enqueues op v → ¬ Contains ms (Failed id) → ⊥)
            → ((id : ℕ) (op : Op) (v : ℤ) → m ≡ Returned id (Number v) → Contains ms (Invoked id op) → op.name ≢ Dequeue) → Filled longer order s
        pass no_put no_take = record {
          run = filled.run;
          once = filled.once;
          in_time = filled.in_time;
          each = λ x h. still_each x (filled.each x h);
          puts_all = λ id op v h q n. ⊎_elim (λ k. filled.puts_all id op v k q n) (λ e. absurd (no_put id op v e q n)) (Contains-push_cases front m _ h);
          takes_all = λ id op v i q h. ⊎_elim (λ k. filled.takes_all id op v i q k) (λ e. absurd (no_take id op v e i q)) (Contains-push_cases front m _ h);
        }

        -- or an operation takes place here
        fill : (x : Taken) (t : List ℤ) → IsPut longer x ⊎ IsTake longer x → ¬ Includes order x.id → ¬ HasReturned front x.id → unordered_queue.Steps s x.op x.found t
            → ((id : ℕ) (op : Op) → m ≡ Invoked id op → id ≡ x.id) → ((id : ℕ) (answer : Answer) → m ≡ Returned id answer → id ≡ x.id) → Filled longer (order ++ x ∷ []) t
        fill x t is fresh pending step same_put same_take = record {
          run = Run-append unordered_queue [] s t order (x ∷ []) filled.run (t, step, refl);
          once = Pairwise-append (λ y z. y.id ≢ z.id) order (x ∷ []) filled.once ((λ y h. absurd (Contains-nil y h)), tt) (λ y z h k e. fresh (y, h, e ∙ ap (λ (w : Taken). w.id) (sym (only z k))));
          in_time = Pairwise-append (λ y z. ¬ Precedes ms z.id y.id) order (x ∷ []) filled.in_time ((λ y h. absurd (Contains-nil y h)), tt)
              (λ y z h k. subst (λ (w : Taken). ¬ Precedes ms w.id y.id) (only z k) (not_preceded front (m ∷ rest) whole x.id y.id (y.op, invoked_there y (filled.each y h)) pending));
          each = λ y h. ⊎_elim (λ k. still_each y (filled.each y k)) (λ e. subst (λ (w : Taken). IsPut longer w ⊎ IsTake longer w) e is) (Contains-push_cases order x y h);
          puts_all = λ id op v h q n. ⊎_elim (λ k. kept id (filled.puts_all id op v k q n)) (λ e. here id (same_put id op e)) (Contains-push_cases front m _ h);
          takes_all = λ id op v i q h. ⊎_elim (λ k. kept id (filled.takes_all id op v i q k)) (λ e. here id (same_take id (Number v) e)) (Contains-push_cases front m _ h);
        }
          where
            only : (z : Taken) → Contains (x ∷ []) z → x ≡ z
            only z k = ⊎_elim (λ e. e) (λ j. absurd (Contains-nil z j)) (Contains-cons_cases x [] z k)

            kept : (id : ℕ) → Includes order id → Includes (order ++ x ∷ []) id
            kept id i = (i.0, Contains-append_left order (x ∷ []) i.0 i.1, i.2)

            here : (id : ℕ) → id ≡ x.id → Includes (order ++ x ∷ []) id
            here id e = (x, Contains-push order x, sym e)

        abbrev Next : Type 0
        Next = (after : List Taken) × (t : List ℤ) × Filled longer after t

        -- an enqueue that never fails takes place as it is invoked
        at_invocation : (id : ℕ) (op : Op) → m ≡ Invoked id op → IsNew front id → Next
        at_invocation id op is new = ⊎_elim
            (λ put. ⊎_elim
            (λ failed. (order, s, pass (λ i p v e q n. n (subst (λ j. Contains ms (Failed j)) (sym (same i p e)) failed)) no_take))
            (λ never_fails.
            let x : Taken = record { id = id; op = op; found = Done } in (
              order ++ x ∷ [],
              with_one put.0 s,
              fill x (with_one put.0 s)
                  (inl (put.0, subst (Contains longer) is (Contains-push front m), put.1, refl, never_fails))
                  (λ i. new (Invoked i.0.id i.0.op) (invoked_there i.0 (filled.each i.0 i.1)) i.2)
                  (λ d. new (Returned id d.0) d.1 refl)
                  (by_enqueue op.name op.part s (with_one put.0 s) Done (put.0, put.1.0, put.1.1, refl, refl))
                  (λ i p e. same i p e)
                  (λ i a e. (let clash : Invoked id op ≡ Returned i a = sym is ∙ e in absurd (let none : ⊥ = cc in none))),
            ))
            (failed_or_not ms id))
            (λ no_put. (order, s, pass (λ i p v e q n. no_put v (subst (λ w. Enqueues w v) (same_op i p e) q)) no_take))
            (enqueues_or_not op.name op.part)
          where
            same : (i : ℕ) (p : Op) → m ≡ Invoked i p → i ≡ id
            same i p e = (let q : Invoked i p ≡ Invoked id op = sym e ∙ is in let r : i ≡ id = cc in r)

            same_op : (i : ℕ) (p : Op) → m ≡ Invoked i p → p ≡ op
            same_op i p e = (let q : Invoked i p ≡ Invoked id op = sym e ∙ is in let r : p ≡ op = cc in r)

            no_take : (i : ℕ) (p : Op) (v : ℤ) → m ≡ Returned i (Number v) → Contains ms (Invoked i p) → p.name ≢ Dequeue
            no_take i p v e h q = (let clash : Invoked id op ≡ Returned i (Number v) = sym is ∙ e in absurd (let none : ⊥ = cc in none))

        -- an enqueue that is invoked before an answer, and never fails, is in the order
        an_enqueue : (n : ℕ) (op : Op) (v : ℤ) (id : ℕ) (answer : Answer) → m ≡ Returned id answer → Contains longer (Invoked n op) → Enqueues op v → ¬ Contains ms (Failed n) → Contains (ids_of (puts v) order) n
        an_enqueue n op v id answer is h q never_fails =
            let earlier : Contains front (Invoked n op) = ⊎_elim (λ k. k) (λ e. (let clash : Invoked n op ≡ Returned id answer = sym e ∙ is in absurd (let none : ⊥ = cc in none))) (Contains-push_cases front m (Invoked n op) h) in
            let i : Includes order n = filled.puts_all n op v earlier q never_fails in
            its_place_there n op v i.0 i.1 i.2 (in_ms (Invoked n op) h) q
          where
            its_place_there : (n : ℕ) (op : Op) (v : ℤ) (x : Taken) → Contains order x → x.id ≡ n → Contains ms (Invoked n op) → Enqueues op v → Contains (ids_of (puts v) order) n
            its_place_there n op v x k e h q =
                let invoked : Contains front (Invoked x.id x.op) = invoked_there x (filled.each x k) in
                let there : Contains ms (Invoked x.id x.op) = in_ms (Invoked x.id x.op) (still (Invoked x.id x.op) invoked) in
                let same : op ≡ x.op = one_op ms well n op x.op h (subst (λ j. Contains ms (Invoked j x.op)) e there) in
                subst (Contains (ids_of (puts v) order)) e (to_ids (puts v) order x k (puts_it v x (ap (λ (p : Op). p.name) (sym same) ∙ q.0) (ap (λ (p : Op). p.part) (sym same) ∙ q.1)))

        -- a value is in when a dequeue answers it
        is_in : (id : ℕ) (op : Op) (v : ℤ) → Contains front (Invoked id op) → op.name ≡ Dequeue → m ≡ Returned id (Number v) → ¬ Includes order id → Contains s v
        is_in id op v there name is fresh =
            let those : AreDequeuesOf longer v (id ∷ ids_of (takes v) order) = record {
              once = ((λ n h e. (let r = from_ids (takes v) order n h in fresh (r.0, r.1, r.3 ∙ sym e))), each_once (filter (takes v) order) (Pairwise-filter (takes v) (λ x y. x.id ≢ y.id) order filled.once));
              each = λ n h. ⊎_elim
                  (λ (e : id ≡ n). subst (λ j. ((p : Op) × Contains longer (Invoked j p) × (p.name ≡ Dequeue)) × Contains longer (Returned j (Number v))) e
                  ((op, still (Invoked id op) there, name), subst (Contains longer) is (Contains-push front m)))
                  (λ k. (let r = from_ids (takes v) order n k in let found = named_dequeue v r.0.op.name r.0.found r.2 in
                  subst (λ j. ((p : Op) × Contains longer (Invoked j p) × (p.name ≡ Dequeue)) × Contains longer (Returned j (Number v))) r.3
                  (⊎_elim
                  (λ j. (let clash : Dequeue ≡ Enqueue = sym found.0 ∙ j.2.0 in absurd (let none : ⊥ = cc in none)))
                  (λ j. (let same : j.0 ≡ v = (let q : Item j.0 ≡ Item v = sym j.3 ∙ found.1 in cc) in
                  ((r.0.op, still (Invoked r.0.id r.0.op) j.1, found.0), still (Returned r.0.id (Number v)) (subst (λ w. Contains front (Returned r.0.id (Number w))) same j.4))))
                  (filled.each r.0 r.1))))
                  (Contains-cons_cases id (ids_of (takes v) order) n h);
            } in
            let enough = never longer v (rest, whole_longer) (id ∷ ids_of (takes v) order) those in
            let most : length enough.0 ≤ length (ids_of (puts v) order) = no_longer_than enough.0 (ids_of (puts v) order) enough.1.once
            (λ n h. let e = enough.1.each n h in an_enqueue n e.0.0 v id (Number v) is e.0.1 e.0.2 e.1) in
            let bound : suc (length (ids_of (takes v) order)) ≤ length enough.0 = enough.2 in
            let sums = counted v order [] s filled.run in
            let nothing : times_in v [] ≡ 0 = refl in
            in_if_counted v s (omega (arith, most, bound, sums, nothing))

        -- a dequeue takes place as it answers
        at_return : (id : ℕ) (answer : Answer) → m ≡ Returned id answer → IsOpen front id → Next
        at_return id answer is pending = ⊎_elim
            (λ put. (
              order,
              s,
              pass no_put (λ i p v e h q.
                  (let own : op ≡ p = one_op ms well id op p (in_ms _ (still _ pending.invoked.1)) (subst (λ j. Contains ms (Invoked j p)) (same i (Number v) e) h) in
                  let clash : Enqueue ≡ Dequeue = sym put.1.0 ∙ ap (λ (w : Op). w.name) own ∙ q in absurd (let none : ⊥ = cc in none))),
            ))
            (λ take.
            let v : ℤ = take.0 in
            let answers : answer ≡ Number v = one_answer ms well id answer (Number v) there take.3 in
            let told : m ≡ Returned id (Number v) = is ∙ ap (Returned id) answers in
            let fresh : ¬ Includes order id = (λ i. ⊎_elim
            (λ k. (let own : op ≡ i.0.op = one_op ms well id op i.0.op (in_ms _ (still _ pending.invoked.1)) (subst (λ j. Contains ms (Invoked j i.0.op)) i.2 (in_ms _ (still _ k.1))) in
            let clash : Dequeue ≡ Enqueue = sym take.1 ∙ ap (λ (w : Op). w.name) own ∙ k.2.0 in absurd (let none : ⊥ = cc in none)))
            (λ k. pending.not_returned (Number k.0, subst (λ j. Contains front (Returned j (Number k.0))) i.2 k.4))
            (filled.each i.0 i.1)) in
            let in_s : Contains s v = is_in id op v pending.invoked.1 take.1 told fresh in
            let x : Taken = record { id = id; op = op; found = Item v } in (
              order ++ x ∷ [],
              without_one v s,
              fill x (without_one v s)
                  (inr (v, still _ pending.invoked.1, take.1, refl, subst (Contains longer) told (Contains-push front m)))
                  fresh
                  pending.not_returned
                  (by_dequeue op.name op.part s (without_one v s) (Item v) (v, take.1, take.2, in_s, refl, refl))
                  (λ i p e. (let clash : Returned id answer ≡ Invoked i p = sym is ∙ e in absurd (let none : ⊥ = cc in none)))
                  (λ i a e. same i a e),
            ))
            (are id op (in_ms _ (still _ pending.invoked.1)) (answer, there))
          where
            op : Op
            op = pending.invoked.0

            there : Contains ms (Returned id answer)
            there = in_ms _ (subst (Contains longer) is (Contains-push front m))

            same : (i : ℕ) (a : Answer) → m ≡ Returned i a → i ≡ id
            same i a e = (let q : Returned i a ≡ Returned id answer = sym e ∙ is in let r : i ≡ id = cc in r)

            no_put : (i : ℕ) (p : Op) (v : ℤ) → m ≡ Invoked i p → Enqueues p v → ¬ Contains ms (Failed i) → ⊥
            no_put i p v e q n = (let clash : Returned id answer ≡ Invoked i p = sym is ∙ e in absurd (let none : ⊥ = cc in none))

    next : (front rest : List Mark) (m : Mark) (whole : front ++ m ∷ rest ≡ ms) (order : List Taken) (s : List ℤ) → Filled front order s → (after : List Taken) × (t : List ℤ) × Filled (front ++ m ∷ []) after t
    next front rest (Invoked id op) whole order s filled = at_invocation front rest (Invoked id op) whole order s filled id op refl (well front rest (Invoked id op) whole)
    next front rest (Returned id answer) whole order s filled = at_return front rest (Returned id answer) whole order s filled id answer refl (well front rest (Returned id answer) whole)
    next front rest (Failed id) whole order s filled = (order, s, pass front rest (Failed id) whole order s filled (λ i p v e q n. cc) (λ i p v e h q. cc))
    next front rest (Crashed id) whole order s filled = (order, s, pass front rest (Crashed id) whole order s filled (λ i p v e q n. cc) (λ i p v e h q. cc))

    all_filled : (front rest : List Mark) → front ++ rest ≡ ms → (order : List Taken) (s : List ℤ) → Filled front order s → (after : List Taken) × (t : List ℤ) × Filled ms after t
    all_filled front [] whole order s filled = (order, s, subst (λ k. Filled k order s) (sym (append-nil front) ∙ whole) filled)
    all_filled front (m ∷ rest) whole order s filled =
        let r = next front rest m whole order s filled in
        all_filled (front ++ m ∷ []) rest (append_assoc front (m ∷ []) rest ∙ whole) r.0 r.1 r.2

    pub linearizable_by_counts : IsLinearizable unordered_queue ms
    linearizable_by_counts =
        let nothing : Filled [] [] [] = record {
          run = refl;
          once = tt;
          in_time = tt;
          each = λ x h. absurd (Contains-nil x h);
          puts_all = λ id op v h. absurd (Contains-nil _ h);
          takes_all = λ id op v i q h. absurd (Contains-nil _ h);
        } in
        let r = all_filled [] ms refl [] [] nothing in
        let filled : Filled ms r.0 r.1 = r.2 in (
          r.0,
          r.1,
          record {
            invoked = λ x h. ⊎_elim (λ k. k.1) (λ k. k.1) (filled.each x h);
            once = filled.once;
            none_failed = λ x h f. ⊎_elim (λ k. k.4 f) (λ k. returned_not_failed ms well x.id (Number k.0) k.4 f) (filled.each x h);
            all_done = λ id d. (let i = returned_invoked ms well id d.0 d.1 in ⊎_elim
                (λ put. filled.puts_all id i.0 put.0 i.1 put.1 (returned_not_failed ms well id d.0 d.1))
                (λ take. filled.takes_all id i.0 take.0 i.1 take.1 take.3)
                (are id i.0 i.1 d));
            in_time = filled.in_time;
            run = filled.run;
            fits = λ x answer h d. ⊎_elim
                (λ k. subst (λ f. Fits f answer) (sym k.3) tt)
                (λ k. subst (λ f. Fits f answer) (sym k.3) (subst (Fits (Item k.0)) (one_answer ms well x.id (Number k.0) answer k.4 d) refl))
                (filled.each x h);
          },
        )

  pub counts_decide : AreQueueOperations ms → IsLinearizable unordered_queue ms ↔ NeverRunsOut ms
  counts_decide are = (never_runs_out, linearizable_by_counts are)
