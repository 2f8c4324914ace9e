-- the history of a queue without an order is balanced where it has a legal order
use Rattle.std.proofs.Common.{◌≡◌, ◌≢◌, ◌+◌, ◌≤◌, ℤ, ◌⊎◌, inl, inr, ⊎_elim, Bool, true, List, [], ◌∷◌, ◌++◌, map, refl, sym, ap, ◌∙◌, subst, append_assoc, arith}
use Rattle.std.specs.List.{Contains, count_by}
use Rattle.std.proofs.lemmas.List.Elements.{Contains-append_left, Contains-append_cases, Contains-push_cases}
use Rattle.models.specs.declared.operation.Name.TheVariants.{Dequeue}
use Rattle.models.specs.declared.operation.Op.{Op}
use Rattle.models.specs.declared.finding.Found.{Found}
use Rattle.models.specs.declared.finding.Found.TheVariants.{Item}
use Rattle.models.specs.declared.finding.Answer.TheVariants.{Number}
use Rattle.models.specs.Objects.{unordered_queue, Fits}
use Rattle.models.specs.Runs.{Runs, is_enqueue_of, is_dequeue_of, times_enqueued, times_dequeued, times_in}
use Rattle.models.proofs.Unordered.{each_is_dequeued_once}
use Rattle.values.proofs.Bags.{same_int}
use Rattle.events.specs.Events.{Mark}
use Rattle.events.specs.Events.Mark.{Invoked, Returned}
use Rattle.linspec.specs.MarkRule.{id_of, AreWellFormed}
use Rattle.linspec.specs.Operations.{HasReturned, Precedes}
use Rattle.linspec.specs.Orders.{Taken, Includes, Pairwise, Run, IsLegalOrder, IsLinearizable}
use Rattle.linspec.proofs.Lists.{Contains-nil, Contains-head, Contains-cons_cases, Pairwise-across, Pairwise-left, Pairwise-weaker}
use Rattle.linspec.proofs.Marks.{Run-cut}
use Rattle.linspec.proofs.Fates.{returned_or_not}
use Rattle.set_chains.proofs.Once.{one_op, not_before_itself}
use Rattle.bag_matches.specs.Matches.{AreKnown}
use Rattle.bag_matches.specs.Counts.{puts, takes, enqueued, dequeued, IsBalanced}
use Rattle.bag_matches.proofs.Tests.{IsTake, enqueue_is, puts_is, takes_is, no_both}
use Rattle.bag_matches.proofs.Counting.{Apart, count_le, count_map}
use Rattle.bag_matches.proofs.Prefixes.{in_whole, in_front, takes_apart}
use Rattle.bag_matches.proofs.Steps.{fits_number, IsKnown, run_known}

-- the last element of a list of which Q holds, if there is one
last_of : {X : Type 0} (Q : X → Type 0) → ((x : X) → Q x ⊎ (¬ Q x)) → (xs : List X)
    → ((before : List X) × (x : X) × (after : List X) × (xs ≡ before ++ x ∷ after) × Q x × ((y : X) → Contains after y → ¬ Q y)) ⊎ ((y : X) → Contains xs y → ¬ Q y)
last_of Q dec [] = inr (λ y h. absurd (Contains-nil y h))
last_of Q dec (x ∷ xs) = ⊎_elim
    (λ k. inl (x ∷ k.0, k.1, k.2, ap (λ l. x ∷ l) k.3, k.4, k.5))
    (λ none. ⊎_elim
    (λ q. inl ([], x, xs, refl, q, none))
    (λ n. inr (λ y h. ⊎_elim (λ e. subst (λ z. ¬ Q z) e n) (none y) (Contains-cons_cases x xs y h)))
    (dec x))
    (last_of Q dec xs)

abbrev step_of : Taken → Op × Found
step_of x = (x.op, x.found)

as_runs : (order : List Taken) (s t : List ℤ) → Run unordered_queue s order t → Runs unordered_queue s (map step_of order) t
as_runs [] s t run = run
as_runs (x ∷ order) s t run = (run.0, run.1, as_runs order run.0 t run.2)

abbrev finds : ℤ → Taken → Bool
finds v x = is_dequeue_of v x.op.name x.found

abbrev brings : ℤ → Taken → Bool
brings v x = is_enqueue_of v x.op.name x.op.part

module _ (ms : List Mark) (well : AreWellFormed ms) (order : List Taken) (end : List ℤ) (l : IsLegalOrder unordered_queue ms order end) where
  abbrev InTime : Taken → Taken → Type 0
  InTime x y = ¬ Precedes ms y.id x.id

  known_at : (x : Taken) → Contains order x → IsKnown x
  known_at x h = run_known order [] end l.run x h

  known : AreKnown ms
  known id d =
      let i : Includes order id = l.all_done id d in
      let x : Taken = i.0 in
      let invoked : Contains ms (Invoked id x.op) = subst (λ n. Contains ms (Invoked n x.op)) i.2 (l.invoked x i.1) in
      let fits : Fits x.found d.0 = l.fits x d.0 i.1 (subst (λ n. Contains ms (Returned n d.0)) (sym i.2) d.1) in
      ⊎_elim
      (λ p. inl (p.0, (x.op, invoked, p.1)))
      (λ p. inr (p.0, record { op = x.op; invoked = invoked; dequeues = p.1.0; of_any = p.1.1; answer = subst (λ a. Contains ms (Returned id a)) (fits_number p.0 d.0 (subst (λ f. Fits f d.0) p.2 fits)) d.1 }))
      (known_at x i.1)

  module _ (v : ℤ) (front rest : List Mark) (cut : front ++ rest ≡ ms) where
    -- the part of the order up to the last operation that has returned in the prefix
    record Part : Type 0 where
      before : List Taken
      after : List Taken
      whole : before ++ after ≡ order
      done : (x : Taken) → Contains order x → HasReturned front x.id → Contains before x
      early : (x : Taken) → Contains before x → Contains front (Invoked x.id x.op)

    part : Part
    part = ⊎_elim
        (λ k.
        let x : Taken = k.1 in
        let whole : (k.0 ++ x ∷ []) ++ k.2 ≡ order = append_assoc k.0 (x ∷ []) k.2 ∙ sym k.3 in
        let in_time : Pairwise InTime (k.0 ++ x ∷ k.2) = subst (Pairwise InTime) k.3 l.in_time in
        record {
          before = k.0 ++ x ∷ [];
          after = k.2;
          whole = whole;
          done = λ y h r. ⊎_elim (λ i. i) (λ i. absurd (k.5 y i r)) (Contains-append_cases (k.0 ++ x ∷ []) k.2 y (subst (λ o. Contains o y) (sym whole) h));
          early = λ y h. in_front ms well front rest cut x.id y.id y.op k.4
              (l.invoked y (subst (λ o. Contains o y) whole (Contains-append_left (k.0 ++ x ∷ []) k.2 y h)))
              (⊎_elim
              (λ i. Pairwise-across InTime k.0 (x ∷ k.2) in_time y x i (Contains-head x k.2))
              (λ (e : x ≡ y). subst (λ (z : Taken). ¬ Precedes ms x.id z.id) e (not_before_itself ms well x.id))
              (Contains-push_cases k.0 x y h));
        })
        (λ none. record { before = []; after = order; whole = refl; done = λ x h r. absurd (none x h r); early = λ x h. absurd (Contains-nil x h) })
        (last_of (λ (x : Taken). HasReturned front x.id) (λ (x : Taken). returned_or_not front x.id) order)

    module _ (p : Part) where
      there : (x : Taken) → Contains p.before x → Contains order x
      there x h = subst (λ o. Contains o x) p.whole (Contains-append_left p.before p.after x h)

      found_in : (m : Mark) → Contains front m → takes ms v m ≡ true → (x : Taken) × Contains p.before x × (finds v x ≡ true) × (x.id ≡ id_of m)
      found_in m h t =
          let i : IsTake ms v m = (takes_is ms v m).0 t in
          let here : Contains front (Returned i.0 (Number v)) = subst (Contains front) i.1 h in
          let own : Contains ms (Returned i.0 (Number v)) = in_whole ms well front rest cut _ here in
          let c : Includes order i.0 = l.all_done i.0 (Number v, own) in
          let x : Taken = c.0 in
          let same : i.2 ≡ x.op = one_op ms well i.0 i.2 x.op i.3 (subst (λ n. Contains ms (Invoked n x.op)) c.2 (l.invoked x c.1)) in
          let name : x.op.name ≡ Dequeue = ap (λ (o : Op). o.name) (sym same) ∙ i.4.0 in
          let fits : Fits x.found (Number v) = l.fits x (Number v) c.1 (subst (λ n. Contains ms (Returned n (Number v))) (sym c.2) own) in
          let found : x.found ≡ Item v = ⊎_elim
          (λ q. absurd (no_both x.op.name name q.1.0))
          (λ q. (let e : q.0 ≡ v = subst (λ f. Fits f (Number v)) q.2 fits in q.2 ∙ ap Item e))
          (known_at x c.1) in
          (x, p.done x c.1 (subst (HasReturned front) (sym c.2) (Number v, here)), (λ j. is_dequeue_of v (name j) (found j)) ∙ same_int v v refl, c.2 ∙ sym (ap id_of i.1))

      brought_in : (x : Taken) → Contains p.before x → brings v x ≡ true → (m : Mark) × Contains front m × (puts ms v m ≡ true) × (id_of m ≡ x.id)
      brought_in x h t = (
        Invoked x.id x.op,
        p.early x h,
        (puts_is ms v (Invoked x.id x.op)).1 (x.id, x.op, refl, (enqueue_is v x.op.name x.op.part).0 t, l.none_failed x (there x h)),
        refl,
      )

      apart : Pairwise (Apart (brings v) (brings v) (λ (x : Taken). x.id) (λ (x : Taken). x.id)) p.before
      apart = Pairwise-weaker (λ x y. x.id ≢ y.id) (Apart (brings v) (brings v) (λ (x : Taken). x.id) (λ (x : Taken). x.id)) p.before (λ x y h k n a b. n)
          (Pairwise-left (λ x y. x.id ≢ y.id) p.before p.after (subst (Pairwise (λ x y. x.id ≢ y.id)) (sym p.whole) l.once))

      counts : dequeued ms v front ≤ enqueued ms v front
      counts =
          let r = Run-cut unordered_queue [] end p.before p.after (subst (λ o. Run unordered_queue [] o end) (sym p.whole) l.run) in
          let a : dequeued ms v front ≤ count_by (finds v) p.before = count_le (takes ms v) (finds v) id_of (λ (x : Taken). x.id) front p.before (takes_apart ms well front rest cut v) found_in in
          let b : count_by (brings v) p.before ≤ enqueued ms v front = count_le (brings v) (puts ms v) (λ (x : Taken). x.id) id_of p.before front apart brought_in in
          let c : times_enqueued v (map step_of p.before) ≡ times_dequeued v (map step_of p.before) + times_in v r.0 = each_is_dequeued_once (map step_of p.before) r.0 v (as_runs p.before [] r.0 r.1) in
          let d : times_enqueued v (map step_of p.before) ≡ count_by (brings v) p.before = count_map (λ step. is_enqueue_of v step.0.name step.0.part) step_of p.before in
          let e : times_dequeued v (map step_of p.before) ≡ count_by (finds v) p.before = count_map (λ step. is_dequeue_of v step.0.name step.1) step_of p.before in
          omega arith

    covered : dequeued ms v front ≤ enqueued ms v front
    covered = counts part

pub balanced_if_linearizable : (ms : List Mark) → AreWellFormed ms → IsLinearizable unordered_queue ms → IsBalanced ms
balanced_if_linearizable ms well h = record {
  known = known ms well h.0 h.1 h.2;
  covered = covered ms well h.0 h.1 h.2;
}
