-- where each value's part is linearizable, the history of the queue without an order is: each value is taken as a key of its own
use Rattle.std.proofs.Common.{◌≡◌, ◌≢◌, ◌↔◌, ℕ, zero, suc, ◌+◌, ◌≤◌, ℤ, pos, negsuc, ◌⊎◌, inr, ⊎_elim, Bool, true, false, not, nat_eq, Option, Some, None, List, [], ◌∷◌, ◌++◌, map, refl, sym, ap, ◌∙◌, subst, arith}
use Rattle.std.specs.List.{Contains}
use Rattle.std.proofs.lemmas.Bool.{true≢false, eq-eqb, ne_eqb}
use Rattle.std.proofs.lemmas.List.Elements.{Contains-append_right}
use Rattle.models.specs.declared.operation.Name.TheVariants.{Enqueue, Dequeue}
use Rattle.models.specs.declared.operation.Part.TheVariants.{Nil, Int}
use Rattle.models.specs.declared.operation.Op.{Op}
use Rattle.models.specs.declared.finding.Found.TheVariants.{Item}
use Rattle.models.specs.declared.finding.Answer.{Answer}
use Rattle.models.specs.declared.finding.Answer.TheVariants.{Number}
use Rattle.values.specs.Multisets.{with_one, without_one}
use Rattle.models.specs.Objects.{Object, Fits, unordered_queue}
use Rattle.models.specs.Runs.{times_in}
use Rattle.kinds.specs.declared.model_kind.ModelKind.TheVariants.{UnorderedQueue}
use Rattle.events.specs.Events.{Mark, Entry, of_key, marks}
use Rattle.events.specs.Events.Mark.{Invoked, Returned, Failed}
use Rattle.linspec.specs.MarkRule.{id_of, AreWellFormed, IsKeyed}
use Rattle.linspec.specs.Orders.{Taken, Run, IsLegalOrder, IsLinearizable, product}
use Rattle.linspec.proofs.Lists.{Contains-head}
use Rattle.linspec.proofs.Filters.{filter-yes, filter-no, from_map}
use Rattle.locality.proofs.Locality.{IsLinearizable-keys}
use Rattle.shrinking_laws.specs.LeftOut.{without, HaveNotReturned}
use Rattle.shrinking_laws.specs.Bags.{AreValues, is_other, bag}
use Rattle.shrinking_laws.proofs.Matching.{Matches, IsLegalOrder-match, simulated}
use Rattle.shrinking_laws.proofs.Once.{returned_invoked}
use Rattle.shrinking_laws.proofs.Intervals.{IsLinearizable-stricter}
use Rattle.shrinking_laws.proofs.LeftOut.{from_without, to_without, AreWellFormed-without, rest_asks_for_more}
use Rattle.shrinking_laws.proofs.Multisets.{one_more, more_of_another, one_less, less_of_another, in_if_counted, equal_or_not, IsEnqueue, IsDequeue, unordered_view, by_enqueue, by_dequeue}
use Rattle.shrinking_laws.specs.Changed.{changed_mark, changed}
use Rattle.shrinking_laws.proofs.Relabelling.{changed-id, change_invoked, from_invoked, from_returned, from_failed, to_invoked, to_returned, to_failed, from_precedes, to_precedes, AreWellFormed-changed}
use Rattle.shrinking_laws.proofs.Bags.{is_this, is_another, IsLinearizable-bag}

-- each integer as a natural number, and each natural number as an integer
abbrev code : ℤ → ℕ
code (pos n) = n + n
code (negsuc n) = suc (n + n)

code_once : (v w : ℤ) → code v ≡ code w → v ≡ w
code_once (pos n) (pos k) e = let same : n ≡ k = omega arith in ap pos same
code_once (negsuc n) (negsuc k) e = let same : n ≡ k = omega arith in ap negsuc same
code_once (pos n) (negsuc k) e = absurd (omega arith)
code_once (negsuc n) (pos k) e = absurd (omega arith)

next_code : (k : ℕ) (v : ℤ) → code v ≡ k → (w : ℤ) × (code w ≡ suc k)
next_code k (pos n) e = (negsuc n, ap suc e)
next_code k (negsuc n) e = (pos (suc n), omega arith)

coded : (k : ℕ) → (v : ℤ) × (code v ≡ k)
coded zero = (pos zero, omega arith)
coded (suc k) = let r = coded k in next_code k r.0 r.1

abbrev code_if : Option ℤ → ℕ
code_if None = 0
code_if (Some v) = code v

abbrev is_none : Option ℤ → Bool
is_none None = true
is_none (Some v) = false

by_option : {P : Type 0} (r : Option ℤ) → (r ≡ None → P) → ((v : ℤ) → r ≡ Some v → P) → P
by_option None none some = none refl
by_option (Some v) none some = some v refl

module _ (value : ℕ → Option ℤ) where
  -- the operations of no value go
  abbrev of_none : ℕ → Bool
  of_none id = is_none (value id)

  abbrev key : ℕ → ℕ
  key id = code_if (value id)

  abbrev with_key : ℕ → Op → Op
  with_key id op = record op { key = key id }

  abbrev as_told : ℕ → Answer → Answer
  as_told id answer = answer

  abbrev keyed : Mark → Mark
  keyed = changed_mark with_key as_told

  abbrev all_keyed : List Mark → List Mark
  all_keyed = changed with_key as_told

  abbrev entry_of : Mark → Entry
  entry_of m = record { index = 0; key = key (id_of m); mark = keyed m }

  abbrev entries : List Mark → List Entry
  entries ms = map entry_of ms

  marks-entries : (ms : List Mark) → marks (entries ms) ≡ all_keyed ms
  marks-entries [] = refl
  marks-entries (m ∷ ms) = ap (λ l. keyed m ∷ l) (marks-entries ms)

  -- a key's part is the bag of its value
  module _ (v : ℤ) where
    abbrev is_here : Entry → Bool
    is_here e = nat_eq e.key (code v)

    abbrev has_value : Mark → Bool
    has_value m = not (of_none (id_of m))

    abbrev in_bag : Mark → Bool
    in_bag m = not (is_other v (value (id_of m)))

    key_part : (ms : List Mark) → marks (of_key (code v) (entries (without of_none ms))) ≡ all_keyed (bag value v ms)
    key_part [] = refl
    key_part (m ∷ ms) = by_option (value (id_of m))
        (λ e.
        ap (λ l. marks (of_key (code v) (entries l))) (filter-no has_value m ms (ap (λ r. not (is_none r)) e))
        ∙ key_part ms
        ∙ ap (all_keyed) (sym (filter-no in_bag m ms (ap (λ r. not (is_other v r)) e))))
        (λ w e.
        ap (λ l. marks (of_key (code v) (entries l))) (filter-yes has_value m ms (ap (λ r. not (is_none r)) e))
        ∙ ⊎_elim
        (λ (same : w ≡ v).
        ap marks (filter-yes is_here (entry_of m) (entries (without of_none ms)) (eq-eqb (key (id_of m)) (code v) (ap code_if e ∙ ap code same)))
        ∙ ap (λ l. keyed m ∷ l) (key_part ms)
        ∙ ap (all_keyed) (sym (filter-yes in_bag m ms (ap not (is_this v (value (id_of m)) (e ∙ ap Some same))))))
        (λ ne.
        ap marks (filter-no is_here (entry_of m) (entries (without of_none ms)) (ne_eqb (key (id_of m)) (code v) (λ q. ne (code_once w v (sym (ap code_if e) ∙ q)))))
        ∙ key_part ms
        ∙ ap (all_keyed) (sym (filter-no in_bag m ms (ap not (is_another v w (value (id_of m)) e ne)))))
        (equal_or_not w v))

  -- an operation has one key
  entries_keyed : (ms : List Mark) → IsKeyed (entries ms)
  entries_keyed ms = record {
    op_key = λ e id op h is. (
        let r = from_map entry_of ms e h in
        let mark : keyed r.0 ≡ Invoked id op = ap (λ (w : Entry). w.mark) r.2 ∙ is in
        let q = change_invoked with_key as_told r.0 id op mark in
        ap (λ (p : Op). p.key) (sym q.2) ∙ ap key (sym (ap id_of q.1)) ∙ ap (λ (w : Entry). w.key) r.2);
    one_key = λ e g h k is. (
        let r = from_map entry_of ms e h in
        let q = from_map entry_of ms g k in
        let same : id_of r.0 ≡ id_of q.0 = sym (changed-id with_key as_told r.0) ∙ ap (λ (w : Entry). id_of w.mark) r.2 ∙ is ∙ sym (ap (λ (w : Entry). id_of w.mark) q.2) ∙ changed-id with_key as_told q.0 in
        sym (ap (λ (w : Entry). w.key) r.2) ∙ ap key same ∙ ap (λ (w : Entry). w.key) q.2);
  }

  abbrev Never : Taken → Type 0
  Never x = ⊥

  middle : (before after order : List Taken) (x : Taken) → before ++ x ∷ after ≡ order → Contains order x
  middle before after order x whole = subst (λ l. Contains l x) whole (Contains-append_right before (x ∷ after) x (Contains-head x after))

  -- other keys change nothing for the queue itself
  record OtherKey (x y : Taken) : Type 0 where
    id : y.id ≡ x.id
    op : y.op ≡ with_key x.id x.op
    found : y.found ≡ x.found

  IsLinearizable-keyed : (ms : List Mark) → IsLinearizable unordered_queue ms → IsLinearizable unordered_queue (all_keyed ms)
  IsLinearizable-keyed ms h =
      let l : IsLegalOrder unordered_queue ms h.0 h.1 = h.2 in
      let r = simulated unordered_queue unordered_queue Never OtherKey (λ before s w. s ≡ w) h.0
      (λ before after x s t w whole same step.
      inr (
        record { id = x.id; op = with_key x.id x.op; found = x.found },
        t,
        record { id = refl; op = refl; found = refl },
        subst (λ z. unordered_queue.Steps z x.op x.found t) same step,
        refl,
      ))
      [] h.0 [] h.1 [] refl refl l.run in (
        r.0,
        r.1,
        IsLegalOrder-match Never OtherKey ms (all_keyed ms) (λ x y k. k.id) (from_precedes with_key as_told ms) unordered_queue unordered_queue h.0 r.0 h.1 r.1 l r.2 r.3
            (λ x y i k. subst (λ n. Contains (all_keyed ms) (Invoked n y.op)) (sym k.id) (subst (λ p. Contains (all_keyed ms) (Invoked x.id p)) (sym k.op) (to_invoked with_key as_told ms x.id x.op (l.invoked x i))))
            (λ x y i k d. subst (λ n. Contains ms (Failed n)) k.id (from_failed with_key as_told ms y.id d))
            (λ id d. ((let q = from_returned with_key as_told ms id d.0 d.1 in (q.0, q.1)), (λ x i e none. none)))
            (λ x y answer i k d. (let q = from_returned with_key as_told ms y.id answer d in
            subst (λ f. Fits f answer) (sym k.found) (l.fits x answer i (subst (λ a. Contains ms (Returned x.id a)) q.2 (subst (λ n. Contains ms (Returned n q.0)) k.id q.1))))),
      )

  abbrev queues : Object
  queues = product (λ k. UnorderedQueue)

  module _ (ms : List Mark) (well : AreWellFormed ms) (are : AreValues value ms) where
    abbrev valued : List Mark
    valued = without of_none ms

    abbrev all_entries : List Entry
    all_entries = entries valued

    all_marks : marks all_entries ≡ all_keyed valued
    all_marks = marks-entries valued

    none_returned : HaveNotReturned of_none ms
    none_returned id e d =
        let i = returned_invoked ms well id d.0 d.1 in
        ⊎_elim
        (λ k. true≢false (sym e ∙ ap is_none k.3))
        (λ j. ⊎_elim (λ k. true≢false (sym e ∙ ap is_none k.4)) (λ k. k.1 d) j)
        (are id i.0 i.1)

    -- each key's part is linearizable where each bag is
    each_key : ((v : ℤ) → IsLinearizable unordered_queue (bag value v ms)) → (k : ℕ) → IsLinearizable unordered_queue (marks (of_key k all_entries))
    each_key each k =
        let c = coded k in
        subst (λ n. IsLinearizable unordered_queue (marks (of_key n all_entries))) c.1
        (subst (IsLinearizable unordered_queue) (sym (key_part c.0 ms)) (IsLinearizable-keyed (bag value c.0 ms) (each c.0)))

    all_keys : ((v : ℤ) → IsLinearizable unordered_queue (bag value v ms)) → IsLinearizable queues (all_keyed valued)
    all_keys each =
        subst (IsLinearizable queues) all_marks
        ((IsLinearizable-keys (λ k. UnorderedQueue) all_entries (entries_keyed valued)
        (subst AreWellFormed (sym all_marks) (AreWellFormed-changed with_key as_told valued (AreWellFormed-without of_none ms well)))).1 (each_key each))

    record OwnKey (x y : Taken) : Type 0 where
      id : y.id ≡ x.id
      invoked : Contains valued (Invoked y.id y.op)
      found : y.found ≡ x.found

    -- one queue has, of each value, the items of the queue of this value
    abbrev HasAll : (ℕ → List ℤ) → List ℤ → Type 0
    HasAll s w = (v : ℤ) → times_in v (s (code v)) ≤ times_in v w

    module _ (order : List Taken) (end : ℕ → List ℤ) (l : IsLegalOrder queues (all_keyed valued) order end) where
      module _ (x : Taken) (there : Contains order x) (s t : ℕ → List ℤ) (w : List ℤ) (has : HasAll s w) (step : queues.Steps s x.op x.found t) where
        was : (before : Op) × Contains valued (Invoked x.id before) × (with_key x.id before ≡ x.op)
        was = from_invoked with_key as_told valued x.id x.op (l.invoked x there)

        here : Contains ms (Invoked x.id was.0) × (of_none x.id ≡ false)
        here = from_without of_none ms _ was.1

        abbrev Next : Type 0
        Next = (Never x × HasAll t w) ⊎ ((y : Taken) × (u : List ℤ) × OwnKey x y × unordered_queue.Steps w y.op y.found u × HasAll t u)

        abbrev y : Taken
        y = record { id = x.id; op = was.0; found = x.found }

        own : OwnKey x y
        own = record { id = refl; invoked = was.1; found = refl }

        same_name : was.0.name ≡ x.op.name
        same_name = ap (λ (p : Op). p.name) was.2

        same_part : was.0.part ≡ x.op.part
        same_part = ap (λ (p : Op). p.part) was.2

        same_key : (v : ℤ) → value x.id ≡ Some v → x.op.key ≡ code v
        same_key v e = sym (ap (λ (p : Op). p.key) was.2) ∙ ap code_if e

        -- the state of the key of v is as it was, if v is another value
        other_key : (v u : ℤ) → value x.id ≡ Some v → v ≢ u → t (code u) ≡ s (code u)
        other_key v u e ne = step.1 (code u) (λ q. ne (sym (code_once u v (q ∙ same_key v e))))

        view : (v : ℤ) → value x.id ≡ Some v → IsEnqueue x.op.name x.op.part (s (code v)) x.found (t (code v)) ⊎ IsDequeue x.op.name x.op.part (s (code v)) x.found (t (code v))
        view v e = unordered_view x.op.name x.op.part (s (code v)) (t (code v)) x.found (subst (λ k. unordered_queue.Steps (s k) x.op x.found (t k)) (same_key v e) step.0)

        enqueue : (v : ℤ) → was.0.name ≡ Enqueue → was.0.part ≡ Int v → value x.id ≡ Some v → Next
        enqueue v name part is = ⊎_elim
            (λ k.
            let same : k.0 ≡ v = (let q : Int k.0 ≡ Int v = sym k.2 ∙ sym same_part ∙ part in cc) in
            inr (
              y,
              with_one v w,
              own,
              by_enqueue was.0.name was.0.part w (with_one v w) x.found (v, name, part, refl, k.4),
              (λ u. ⊎_elim
                  (λ (e : v ≡ u). subst (λ z. times_in z (t (code z)) ≤ times_in z (with_one v w)) e
                  (let t_is : times_in v (t (code v)) ≡ suc (times_in v (s (code v))) = ap (times_in v) (k.3 ∙ ap (λ z. with_one z (s (code v))) same) ∙ one_more v (s (code v)) in
                  let u_is : times_in v (with_one v w) ≡ suc (times_in v w) = one_more v w in
                  let less : times_in v (s (code v)) ≤ times_in v w = has v in
                  omega arith))
                  (λ ne.
                  let t_is : times_in u (t (code u)) ≡ times_in u (s (code u)) = ap (times_in u) (other_key v u is ne) in
                  let u_is : times_in u (with_one v w) ≡ times_in u w = more_of_another u v w ne in
                  let less : times_in u (s (code u)) ≤ times_in u w = has u in
                  omega arith)
                  (equal_or_not v u)),
            ))
            (λ k. (let clash : Enqueue ≡ Dequeue = sym name ∙ same_name ∙ k.1 in absurd (let none : ⊥ = cc in none)))
            (view v is)

        dequeue : (v : ℤ) → was.0.name ≡ Dequeue → was.0.part ≡ Nil → Contains ms (Returned x.id (Number v)) → value x.id ≡ Some v → Next
        dequeue v name part answered is = ⊎_elim
            (λ k. (let clash : Dequeue ≡ Enqueue = sym name ∙ same_name ∙ k.1 in absurd (let none : ⊥ = cc in none)))
            (λ k.
            let told : Contains (all_keyed valued) (Returned x.id (Number v)) = to_returned with_key as_told valued x.id (Number v) (to_without of_none ms _ answered here.1) in
            let same : k.0 ≡ v = subst (λ f. Fits f (Number v)) k.5 (l.fits x (Number v) there told) in
            let in_s : Contains (s (code v)) v = subst (Contains (s (code v))) same k.3 in
            let before : times_in v (s (code v)) ≡ suc (times_in v (without_one v (s (code v)))) = one_less v (s (code v)) in_s in
            let less : times_in v (s (code v)) ≤ times_in v w = has v in
            let in_w : Contains w v = in_if_counted v w (omega arith) in
            inr (
              y,
              without_one v w,
              own,
              by_dequeue was.0.name was.0.part w (without_one v w) x.found (v, name, part, in_w, refl, k.5 ∙ ap Item same),
              (λ u. ⊎_elim
                  (λ (e : v ≡ u). subst (λ z. times_in z (t (code z)) ≤ times_in z (without_one v w)) e
                  (let t_is : times_in v (t (code v)) ≡ times_in v (without_one v (s (code v))) = ap (times_in v) (k.4 ∙ ap (λ z. without_one z (s (code v))) same) in
                  let u_is : times_in v w ≡ suc (times_in v (without_one v w)) = one_less v w in_w in
                  omega arith))
                  (λ ne.
                  let t_is : times_in u (t (code u)) ≡ times_in u (s (code u)) = ap (times_in u) (other_key v u is ne) in
                  let u_is : times_in u w ≡ times_in u (without_one v w) = less_of_another u v w in_w ne in
                  let less : times_in u (s (code u)) ≤ times_in u w = has u in
                  omega arith)
                  (equal_or_not v u)),
            ))
            (view v is)

        next : Next
        next = ⊎_elim
            (λ k. enqueue k.0 k.1 k.2 k.3)
            (λ j. ⊎_elim
            (λ k. dequeue k.0 k.1 k.2 k.3 k.4)
            (λ k. absurd (true≢false (sym (ap is_none k.2) ∙ here.1)))
            j)
            (are x.id was.0 here.0)

      joined_runs : (ys : List Taken) × (u : List ℤ) × Matches Never OwnKey order ys × Run unordered_queue [] ys u
      joined_runs = simulated queues unordered_queue Never OwnKey (λ before s w. HasAll s w) order
          (λ before after x s t w whole has step. next x (middle before after order x whole) s t w has step)
          [] order (λ k. []) end [] refl (λ v. omega arith) l.run

    IsLinearizable-valued : IsLinearizable queues (all_keyed valued) → IsLinearizable unordered_queue valued
    IsLinearizable-valued h =
        let l : IsLegalOrder queues (all_keyed valued) h.0 h.1 = h.2 in
        let r = joined_runs h.0 h.1 l in (
          r.0,
          r.1,
          IsLegalOrder-match Never OwnKey (all_keyed valued) valued (λ x y k. k.id) (to_precedes with_key as_told valued) queues unordered_queue h.0 r.0 h.1 r.1 l r.2 r.3
              (λ x y i k. k.invoked)
              (λ x y i k d. subst (λ n. Contains (all_keyed valued) (Failed n)) k.id (to_failed with_key as_told valued y.id d))
              (λ id d. ((d.0, to_returned with_key as_told valued id d.0 d.1), (λ x i e none. none)))
              (λ x y answer i k d. subst (λ f. Fits f answer) (sym k.found) (l.fits x answer i (subst (λ n. Contains (all_keyed valued) (Returned n answer)) k.id (to_returned with_key as_told valued y.id answer d)))),
        )

    pub IsLinearizable-bags : IsLinearizable unordered_queue ms ↔ ((v : ℤ) → IsLinearizable unordered_queue (bag value v ms))
    IsLinearizable-bags = (
      (λ h v. IsLinearizable-bag value ms are v h),
      (λ each. IsLinearizable-stricter unordered_queue ms valued (rest_asks_for_more of_none ms none_returned) (IsLinearizable-valued (all_keys each))),
    )
