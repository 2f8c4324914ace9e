-- the facts after an ok
use Rattle.std.proofs.Common.{◌≡◌, ◌≢◌, ◌↔◌, ℕ, ◌<◌, ◌≤◌, ℤ, ◌⊎◌, inl, inr, ⊎_elim, Option, Some, None, List, [], ◌∷◌, ◌++◌, length, refl, sym, ap, ◌∙◌, subst, arith}
use Rattle.std.specs.List.{Contains, filter}
use Rattle.std.proofs.lemmas.List.Elements.{Contains-append_left, Contains-append_right, Contains-append_cases, Contains-push, Contains-push_cases}
use Rattle.models.specs.declared.operation.Op.{Op}
use Rattle.models.specs.declared.operation.Part.TheVariants.{Int}
use Rattle.models.specs.declared.finding.Answer.{Answer}
use Rattle.models.specs.declared.finding.Answer.TheVariants.{Number}
use Rattle.events.specs.Events.{Mark}
use Rattle.events.specs.Events.Mark.{Invoked, Returned, Failed}
use Rattle.linspec.specs.Operations.{IsInvoked}
use Rattle.linspec.specs.MarkRule.{AreWellFormed}
use Rattle.linspec.specs.Orders.{Pairwise}
use Rattle.linspec.proofs.Lists.{Contains-nil, Contains-cons_cases, Pairwise-append, Pairwise-right}
use Rattle.linspec.proofs.Filters.{from_map}
use Rattle.linspec.specs.Twins.{IsEnqueueOf}
use Rattle.queue_pairs.specs.Pairs.{HasDequeued, MayDequeue, IsPaired, MayTake}
use Rattle.wide_fifo_queue.specs.declared.known.Call.TheVariants as calls
use Rattle.wide_fifo_queue.specs.declared.known.Pending.{Pending}
use Rattle.wide_fifo_queue.specs.declared.known.Enqueued.{Enqueued}
use Rattle.wide_fifo_queue.specs.declared.known.Waiting.{Waiting}
use Rattle.wide_fifo_queue.specs.declared.known.Owed.{Owed}
use Rattle.wide_fifo_queue.specs.Facts.{StandsAt, IsEntry, IsTakenAt, IsByValue, AreEntries, Waits, IsPassed, AreWaiting, AreOwed, IsAmong, AreMoments, IsServed, Facts, AreFacts, later, is_other, owed_by}
use Rattle.wide_fifo_queue.specs.Queries.{IsDueOf, IsInTime}
use Rattle.wide_fifo_queue.proofs.Moments.{stands_below, stands_last}
use Rattle.queue_pairs.proofs.Once.{one_op}
use Rattle.wide_fifo_queue.proofs.Laws.{ok_of_enqueue, ok_of_dequeue}
use Rattle.wide_fifo_queue.proofs.Calls.{no_both, op_of, dequeue_of_call, no_enqueue_of_call}
use Rattle.wide_fifo_queue.proofs.Carrying.{one_more, may_enqueue_was, entry_is, dequeued_was, taken_is, may_dequeue_is, may_dequeue_was, waits_is, waits_was, kept, kept_at, pending_without}
use Rattle.wide_fifo_queue.proofs.Knowing.{same_value, one_entry, is_entry}
use Rattle.wide_fifo_queue.proofs.Serving.{same_int_or_not}
use Rattle.wide_fifo_queue.proofs.Leaving.{others, others_after}
use Rattle.wide_fifo_queue.proofs.Dequeuing as deq

module _ (ms : List Mark) (id : ℕ) (answer : Answer) where
  pub invoked_by : (i : ℕ) (op : Op) → Contains (ms ++ Returned id answer ∷ []) (Invoked i op) → IsInvoked ms i
  invoked_by i op h = (op, ⊎_elim (λ k. k) (λ e. cc) (Contains-push_cases ms (Returned id answer) (Invoked i op) h))

-- the ok of an enqueue
module _ (f : Facts) (ms : List Mark) (facts : AreFacts f ms) (no_late : f.late ≡ []) (id : ℕ) (v : ℤ) (own : IsEnqueueOf ms id v) (answer : Answer) (well : AreWellFormed (ms ++ Returned id answer ∷ [])) where
  abbrev more : List Mark
  more = ms ++ Returned id answer ∷ []

  its_value : (w : ℤ) → IsEnqueueOf ms id w → v ≡ w
  its_value w a = same_value v w own.0 a.0 (one_op ms facts.well id own.0 a.0 own.1 a.1) own.2 a.2

  no_dequeue : (d : ℕ) (w : ℤ) → HasDequeued more d w → HasDequeued ms d w
  no_dequeue d w h = ⊎_elim
      (λ k. k)
      (λ e.
      let same : id ≡ d = cc in
      let op : own.0 ≡ h.op = one_op more well d own.0 h.op (subst (λ i. Contains more (Invoked i own.0)) same (kept ms (Returned id answer) well _ own.1)) h.invoked in
      absurd (no_both own.0 v own.2 (ap (λ (o : Op). o.name) op ∙ h.dequeues.0, ap (λ (o : Op). o.part) op ∙ h.dequeues.1)))
      (dequeued_was ms (Returned id answer) well d w h)

  no_taker : (i : ℕ) → MayDequeue ms i → id ≢ i
  no_taker i m e =
      let op : own.0 ≡ m.op = one_op ms facts.well i own.0 m.op (subst (λ j. Contains ms (Invoked j own.0)) e own.1) m.invoked in
      no_both own.0 v own.2 (ap (λ (o : Op). o.name) op ∙ m.dequeues.0, ap (λ (o : Op). o.part) op ∙ m.dequeues.1)

  with_waiting : (waiting : List Waiting) → AreWaiting f.entered waiting more → ((u : ℤ) (n : ℕ) → Waits f.entered more u n → IsAmong waiting f.owed u n)
      → AreFacts (record (later (filter (is_other id) f.pending) f) { waiting = waiting }) more
  with_waiting waiting are among = record {
    well = well;
    paired = (ok_of_enqueue ms id v answer well own).1 facts.paired;
    now = one_more ms (Returned id answer) f.now facts.now;
    pending = pending_without ms (Returned id answer) tt f.pending facts.pending;
    entries = record {
      is = λ e h. entry_is ms (Returned id answer) well e (facts.entries.is e h) (λ q. cc);
      is_late = λ e h. absurd (Contains-nil e (subst (λ l. Contains l e) no_late h));
      all = λ i w a. facts.entries.all i w (may_enqueue_was ms (Returned id answer) well i w (invoked_by ms id answer i a.0.0 a.0.1) a);
      by_value = facts.entries.by_value;
      taken = λ e n h t. taken_is ms (Returned id answer) well e.value n (facts.entries.taken e n h t);
      told = λ e d h k. facts.entries.told e d h (no_dequeue d e.value k);
    };
    waiting = are;
    owed = record {
      is = λ o h. waits_is ms (Returned id answer) well f.entered o.value o.by (facts.owed.is o h);
      passed = facts.owed.passed;
      least = facts.owed.least;
      in_order = facts.owed.in_order;
    };
    among = among;
    takers = record {
      is = λ t h. (let k = facts.takers.is t h in (k.0, k.1, may_dequeue_is ms (Returned id answer) well k.0 k.2 (λ a q. no_taker k.0 k.2 (let r : id ≡ k.0 = cc in r)) (λ q. cc), kept_at ms (Returned id answer) well t _ k.3));
      all = λ i m. (let k = facts.takers.all i (may_dequeue_was ms (Returned id answer) well i (invoked_by ms id answer i m.op m.invoked) m) in (k.0, k.1, k.2, kept_at ms (Returned id answer) well k.0 _ k.3));
      in_order = facts.takers.in_order;
    };
  }

  still_waiting : AreWaiting f.entered f.waiting more
  still_waiting = record {
    is = λ w h. waits_is ms (Returned id answer) well f.entered w.value w.by (facts.waiting.is w h);
    not_passed = facts.waiting.not_passed;
    in_order = facts.waiting.in_order;
  }

  -- the entry is of the operation
  module _ (e : Enqueued) (here : Contains f.entered e) (is : e.value ≡ v) where
    same_entry : (x : Enqueued) → Contains f.entered x → x.value ≡ v → x ≡ e
    same_entry x h q = one_entry f.entered facts.entries.by_value x e h here (q ∙ sym is)

    own_id : e.id ≡ id
    own_id =
        let not_failed = (well ms [] (Returned id answer) refl).not_failed in
        let k = facts.entries.all id v (own, not_failed) in
        ⊎_elim
        (λ i. ap (λ (x : Enqueued). x.id) (sym (same_entry k.0 i k.3)) ∙ k.2)
        (λ i. absurd (Contains-nil k.0 (subst (λ l. Contains l k.0) no_late i)))
        k.1

    by_id : (x : Enqueued) → Contains f.entered x → x.id ≡ id → x ≡ e
    by_id x h q = same_entry x h (sym (its_value x.value (subst (λ i. IsEnqueueOf ms i x.value) q (is_entry f ms facts x h).0)))

    pub after_taken : (n : ℕ) → e.taken ≡ Some n → AreFacts (later (filter (is_other id) f.pending) f) more
    after_taken n taken = with_waiting f.waiting still_waiting (λ u k w. ⊎_elim
        (λ x. facts.among u k x)
        (λ q.
        let one : w.entry ≡ e = by_id w.entry w.here (let r : id ≡ w.entry.id = cc in sym r) in
        let s : None ≡ Some n = sym w.stays ∙ ap (λ (x : Enqueued). x.taken) one ∙ taken in
        cc)
        (waits_was ms (Returned id answer) well f.entered u k w))

    pub after_put : e.taken ≡ None → (w : Waiting) → w.value ≡ v → w.by ≡ f.now → AreFacts (record (later (filter (is_other id) f.pending) f) { waiting = f.waiting ++ w ∷ [] }) more
    after_put stays w value by = with_waiting (f.waiting ++ w ∷ []) (record {
      is = λ x h. ⊎_elim
          (λ k. still_waiting.is x k)
          (λ (q : w ≡ x). subst (λ (y : Waiting). Waits f.entered more y.value y.by) q waits)
          (Contains-push_cases f.waiting w x h);
      not_passed = λ x t h p. ⊎_elim
          (λ k. facts.waiting.not_passed x t k p)
          (λ (q : w ≡ x).
          let lt : p.entry.since < length ms = stands_below ms p.entry.since _ (facts.entries.is p.entry p.here).stands in
          let after : x.by < p.entry.since = p.after in
          let same : x.by ≡ length ms = ap (λ (y : Waiting). y.by) (sym q) ∙ by ∙ facts.now in
          absurd (omega arith))
          (Contains-push_cases f.waiting w x h);
      in_order = Pairwise-append (λ x y. x.by < y.by) f.waiting (w ∷ []) facts.waiting.in_order ((λ y k. absurd (Contains-nil y k)), tt) (λ x y h k.
          let lt : x.by < length ms = stands_below ms x.by _ (facts.waiting.is x h).stands in
          ⊎_elim
          (λ (q : w ≡ y). (let same : y.by ≡ length ms = ap (λ (z : Waiting). z.by) (sym q) ∙ by ∙ facts.now in let r : x.by < y.by = omega arith in r))
          (λ j. absurd (Contains-nil y j))
          (Contains-cons_cases w [] y k));
    }) (λ u k x. ⊎_elim
        (λ y. ⊎_elim
        (λ z. inl (z.0, Contains-append_left f.waiting (w ∷ []) z.0 z.1, z.2, z.3))
        inr
        (facts.among u k y))
        (λ q.
        let one : x.entry ≡ e = by_id x.entry x.here (let r : id ≡ x.entry.id = cc in sym r) in
        inl (w, Contains-push f.waiting w, value ∙ sym is ∙ ap (λ (y : Enqueued). y.value) (sym one) ∙ x.value, by ∙ facts.now ∙ sym q.1))
        (waits_was ms (Returned id answer) well f.entered u k x))
      where
        waits : Waits f.entered more w.value w.by
        waits = record {
          entry = e;
          here = here;
          value = is ∙ sym value;
          stays = stays;
          answer = answer;
          stands = subst (λ i. StandsAt more w.by (Returned i answer)) (sym own_id) (subst (λ n. StandsAt more n (Returned id answer)) (sym (by ∙ facts.now)) (stands_last ms (Returned id answer)));
        }

-- the ok of a dequeue
module _ (f : Facts) (ms : List Mark) (facts : AreFacts f ms) (no_late : f.late ≡ []) (p : Pending) (h : Contains f.pending p) (dequeues : p.call ≡ calls.Dequeue)
    (e : Enqueued) (here : Contains f.entered e) (stays : e.taken ≡ None) (well : AreWellFormed (ms ++ Returned p.id (Number e.value) ∷ []))
    (pass rest : List Waiting)
    (split_in : (w : Waiting) → Contains (pass ++ rest) w → Contains f.waiting w × (w.value ≢ e.value))
    (split_all : (w : Waiting) → Contains f.waiting w → w.value ≢ e.value → Contains (pass ++ rest) w)
    (split_order : Pairwise deq.IsSooner (pass ++ rest))
    (before : (w : Waiting) → Contains pass w → w.by < e.since)
    (behind : (w : Waiting) → Contains rest w → e.since ≤ w.by) where
  abbrev pub all_owed : List Owed
  all_owed = deq.all_owed f ms facts e here stays pass rest split_in split_all split_order before behind

  abbrev last : Mark
  last = Returned p.id (Number e.value)

  abbrev pub told : List Mark
  told = ms ++ last ∷ []

  law : IsPaired told ↔ (IsPaired ms × MayTake ms p.id e.value)
  law = let o = op_of f ms facts p h in ok_of_dequeue ms p.id o.0 e.value well o.1 (dequeue_of_call f ms facts p h dequeues)

  pub killed_by_ok : ¬ IsServed (others f ms facts p h) all_owed → ¬ IsPaired told
  killed_by_ok none paired = none (deq.served f ms facts e here stays pass rest split_in split_all split_order before behind p h (law.0 paired).1)

  module _ (due_of : Option Owed) (is_due : IsDueOf f.owed e.value due_of) (in_time : IsInTime p.since due_of) (served : IsServed (others f ms facts p h) all_owed)
      (entered : List Enqueued) (by : IsByValue entered) (e' : Enqueued) (same_v : e'.value ≡ e.value) (same_id : e'.id ≡ e.id) (same_since : e'.since ≡ e.since) (taken : e'.taken ≡ Some f.now)
      (has : (x : Enqueued) → Contains entered x ↔ ((x ≡ e') ⊎ (Contains f.entered x × (x.value ≢ e.value)))) where
    paired : IsPaired told
    paired = law.1 (facts.paired, deq.may_take f ms facts e here stays pass rest split_in split_all split_order before behind p h due_of is_due in_time served)

    other_entry : (x : Enqueued) → Contains f.entered x → x.value ≡ e.value → x ≡ e
    other_entry x i q = one_entry f.entered facts.entries.by_value x e i here q

    is_here : Contains entered e'
    is_here = (has e').1 (inl refl)

    is_entry' : IsEntry told e'
    is_entry' =
        let is = entry_is ms last well e (facts.entries.is e here) (λ q. cc) in
        record {
          op = is.op;
          enqueues = (is.enqueues.0, subst (λ v. is.op.part ≡ Int v) (sym same_v) is.enqueues.1);
          stands = subst (λ i. StandsAt told e'.since (Invoked i is.op)) (sym same_id) (subst (λ n. StandsAt told n (Invoked e.id is.op)) (sym same_since) is.stands);
          not_failed = subst (λ i. ¬ Contains told (Failed i)) (sym same_id) is.not_failed;
        }

    answered : HasDequeued told p.id e.value
    answered =
        let o = op_of f ms facts p h in
        record { op = o.0; invoked = kept ms last well _ o.1; dequeues = dequeue_of_call f ms facts p h dequeues; answer = Contains-push ms last }

    now_at : StandsAt told f.now last
    now_at = subst (λ n. StandsAt told n last) (sym facts.now) (stands_last ms last)

    was : (x : Enqueued) → Contains entered x → (x ≡ e') ⊎ (Contains f.entered x × (x.value ≢ e.value))
    was x i = (has x).0 i

    now_told : (d : ℕ) (v : ℤ) → HasDequeued told d v → v ≢ e.value → HasDequeued ms d v
    now_told d v k ne = ⊎_elim (λ i. i) (λ q. absurd (ne (let r : e.value ≡ v = cc in sym r))) (dequeued_was ms last well d v k)

    entries : AreEntries entered f.late told
    entries = record {
      is = λ x i. ⊎_elim
          (λ q. subst (IsEntry told) (sym q) is_entry')
          (λ k. entry_is ms last well x (facts.entries.is x k.0) (λ q. cc))
          (was x i);
      is_late = λ x i. absurd (Contains-nil x (subst (λ l. Contains l x) no_late i));
      all = λ i v a.
          let k = facts.entries.all i v (may_enqueue_was ms last well i v (invoked_by ms p.id (Number e.value) i a.0.0 a.0.1) a) in
          ⊎_elim
          (λ l. ⊎_elim
          (λ (q : k.0.value ≡ e.value). (e', inl is_here, same_id ∙ ap (λ (x : Enqueued). x.id) (sym (other_entry k.0 l q)) ∙ k.2, same_v ∙ sym q ∙ k.3))
          (λ (n : k.0.value ≢ e.value). (k.0, inl ((has k.0).1 (inr (l, n))), k.2, k.3))
          (same_int_or_not k.0.value e.value))
          (λ l. absurd (Contains-nil k.0 (subst (λ ls. Contains ls k.0) no_late l)))
          k.1;
      by_value = by;
      taken = λ x n i t. ⊎_elim
          (λ q.
          let r : Some f.now ≡ Some n = sym taken ∙ ap (λ (y : Enqueued). y.taken) (sym q) ∙ t in
          let s : f.now ≡ n = cc in
          subst (λ (y : Enqueued). IsTakenAt told y.value n) (sym q) (subst (λ v. IsTakenAt told v n) (sym same_v) (subst (IsTakenAt told e.value) s (p.id, answered, now_at))))
          (λ k. taken_is ms last well x.value n (facts.entries.taken x n k.0 t))
          (was x i);
      told = λ x d i k. ⊎_elim
          (λ q. (f.now, ap (λ (y : Enqueued). y.taken) q ∙ taken))
          (λ j. facts.entries.told x d j.0 (now_told d x.value k j.1))
          (was x i);
    }

    -- the other values wait as they did
    waits : (u : ℤ) (n : ℕ) → u ≢ e.value → Waits f.entered ms u n → Waits entered told u n
    waits u n ne w = record {
      entry = w.entry;
      here = (has w.entry).1 (inr (w.here, λ q. ne (sym w.value ∙ q)));
      value = w.value;
      stays = w.stays;
      answer = w.answer;
      stands = kept_at ms last well n _ w.stands;
    }

    waited : (u : ℤ) (n : ℕ) → Waits entered told u n → Waits f.entered ms u n × (u ≢ e.value)
    waited u n w = ⊎_elim
        (λ q. (let s : None ≡ Some f.now = sym w.stays ∙ ap (λ (y : Enqueued). y.taken) q ∙ taken in cc))
        (λ k.
        let now : Waits f.entered told u n = record { entry = w.entry; here = k.0; value = w.value; stays = w.stays; answer = w.answer; stands = w.stands } in (
          ⊎_elim
              (λ x. x)
              (λ q. absurd (no_enqueue_of_call f ms facts p h dequeues w.entry.value (subst (λ i. IsEnqueueOf ms i w.entry.value) (let r : p.id ≡ w.entry.id = cc in sym r) (is_entry f ms facts w.entry k.0).0)))
              (waits_was ms last well f.entered u n now),
          λ q. k.1 (w.value ∙ q),
        ))
        (was w.entry w.here)

    passed : (n t : ℕ) → IsPassed f.entered n t → IsPassed entered n t
    passed n t q = record {
      entry = q.entry;
      here = (has q.entry).1 (inr (q.here, λ r. (let s : None ≡ Some t = sym stays ∙ ap (λ (y : Enqueued). y.taken) (sym (other_entry q.entry q.here r)) ∙ q.taken in cc)));
      taken = q.taken;
      after = q.after;
    }

    passed_now : (n : ℕ) → n < e.since → IsPassed entered n f.now
    passed_now n lt = record { entry = e'; here = is_here; taken = taken; after = subst (λ k. n < k) (sym same_since) lt }

    was_passed : (n t : ℕ) → IsPassed entered n t → IsPassed f.entered n t ⊎ ((f.now ≡ t) × (n < e.since))
    was_passed n t q = ⊎_elim
        (λ r. (let s : Some f.now ≡ Some t = sym taken ∙ ap (λ (y : Enqueued). y.taken) (sym r) ∙ q.taken in inr ((let u : f.now ≡ t = cc in u), subst (λ k. n < k) (ap (λ (y : Enqueued). y.since) r ∙ same_since) q.after)))
        (λ k. inl (record { entry = q.entry; here = k.0; taken = q.taken; after = q.after }))
        (was q.entry q.here)

    pass_in : (w : Waiting) → Contains pass w → Contains f.waiting w × (w.value ≢ e.value)
    pass_in w i = split_in w (Contains-append_left pass rest w i)

    rest_in : (w : Waiting) → Contains rest w → Contains f.waiting w × (w.value ≢ e.value)
    rest_in w i = split_in w (Contains-append_right pass rest w i)

    waiting : AreWaiting entered rest told
    waiting = record {
      is = λ w i. (let k = rest_in w i in waits w.value w.by k.1 (facts.waiting.is w k.0));
      not_passed = λ w t i q. ⊎_elim
          (λ r. facts.waiting.not_passed w t (rest_in w i).0 r)
          (λ r. (let lt : w.by < e.since = r.1 in let le : e.since ≤ w.by = behind w i in absurd (omega arith)))
          (was_passed w.by t q);
      in_order = Pairwise-right deq.IsSooner pass rest split_order;
    }

    -- an owed value is one of before, or was passed over now
    owed_cases : (o : Owed) → Contains all_owed o → (Contains f.owed o × (o.value ≢ e.value)) ⊎ ((w : Waiting) × Contains pass w × (owed_by f.now w ≡ o))
    owed_cases o i = ⊎_elim
        (λ k. inl (deq.old_in f ms facts e here stays pass rest split_in split_all split_order before behind o k))
        (λ k. inr (from_map (owed_by f.now) pass o k))
        (Contains-append_cases (deq.old_owed f ms facts e here stays pass rest split_in split_all split_order before behind) (deq.new_owed f ms facts e here stays pass rest split_in split_all split_order before behind) o i)

    owed : AreOwed entered all_owed told
    owed = record {
      is = λ o i. ⊎_elim
          (λ k. waits o.value o.by k.1 (facts.owed.is o k.0))
          (λ k. (let j = pass_in k.0 k.1 in subst (λ (q : Owed). Waits entered told q.value q.by) k.2 (waits k.0.value k.0.by j.1 (facts.waiting.is k.0 j.0))))
          (owed_cases o i);
      passed = λ o i. ⊎_elim
          (λ k. passed o.by o.deadline (facts.owed.passed o k.0))
          (λ k. subst (λ (q : Owed). IsPassed entered q.by q.deadline) k.2 (passed_now k.0.by (before k.0 k.1)))
          (owed_cases o i);
      least = λ o t i q. ⊎_elim
          (λ k. ⊎_elim
          (λ r. facts.owed.least o t k.0 r)
          (λ r. (let lt : o.deadline < f.now = deq.deadline_now f ms facts e here stays pass rest split_in split_all split_order before behind o k.0 in let same : f.now ≡ t = r.0 in omega arith))
          (was_passed o.by t q))
          (λ k. ⊎_elim
          (λ r. absurd (facts.waiting.not_passed k.0 t (pass_in k.0 k.1).0 (subst (λ n. IsPassed f.entered n t) (ap (λ (x : Owed). x.by) (sym k.2)) r)))
          (λ r. (let same : f.now ≡ t = r.0 in let d : f.now ≡ o.deadline = ap (λ (x : Owed). x.deadline) k.2 in omega arith))
          (was_passed o.by t q))
          (owed_cases o i);
      in_order = deq.in_turn f ms facts e here stays pass rest split_in split_all split_order before behind;
    }

    among : (u : ℤ) (n : ℕ) → Waits entered told u n → IsAmong rest all_owed u n
    among u n w =
        let k = waited u n w in
        ⊎_elim
        (λ x. ⊎_elim
        (λ i. inr (owed_by f.now x.0, deq.new_has f ms facts e here stays pass rest split_in split_all split_order before behind x.0 i, x.2, x.3))
        (λ i. inl (x.0, i, x.2, x.3))
        (Contains-append_cases pass rest x.0 (split_all x.0 x.1 (λ q. k.1 (sym x.2 ∙ q)))))
        (λ x. inr (x.0, deq.old_has f ms facts e here stays pass rest split_in split_all split_order before behind x.0 x.1 (λ q. k.1 (sym x.2 ∙ q)), x.2, x.3))
        (facts.among u n k.0)

    takers : AreMoments (others f ms facts p h) told
    takers = others_after f ms facts p h last well
        (λ i ne. ((λ a q. ne (let r : p.id ≡ i = cc in sym r)), λ q. cc))
        (λ i m. (may_dequeue_was ms last well i (invoked_by ms p.id (Number e.value) i m.op m.invoked) m, λ q. m.not_returned (Number e.value, subst (λ j. Contains told (Returned j (Number e.value))) (sym q) (Contains-push ms last))))

    pub after_take : AreFacts (record (later (filter (is_other p.id) f.pending) f) { entered = entered; waiting = rest; owed = all_owed; takers = others f ms facts p h }) told
    after_take = record {
      well = well;
      paired = paired;
      now = one_more ms last f.now facts.now;
      pending = pending_without ms last tt f.pending facts.pending;
      entries = entries;
      waiting = waiting;
      owed = owed;
      among = among;
      takers = takers;
    }
