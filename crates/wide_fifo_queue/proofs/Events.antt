-- the facts after each event but the ok of a dequeue
use Rattle.std.proofs.Common.{◌≡◌, ◌≢◌, ◌↔◌, ℕ, ◌<◌, ℤ, ◌⊎◌, inl, inr, ⊎_elim, Some, None, List, [], ◌∷◌, ◌++◌, length, refl, sym, ap, ◌∙◌, subst, arith}
use Rattle.std.specs.List.{Contains, filter}
use Rattle.std.proofs.lemmas.List.Elements.{Contains-append_left, Contains-push, Contains-push_cases}
use Rattle.models.specs.declared.operation.Op.{Op}
use Rattle.models.specs.declared.finding.Answer.{Answer}
use Rattle.models.specs.declared.finding.Answer.TheVariants.{Number}
use Rattle.events.specs.Events.{Mark}
use Rattle.events.specs.Events.Mark.{Invoked, Returned, Failed, Crashed}
use Rattle.linspec.specs.Operations.{IsInvoked}
use Rattle.linspec.specs.MarkRule.{IsNew, AreWellFormed}
use Rattle.linspec.proofs.Lists.{Contains-head, Contains-nil, Contains-cons_cases, Pairwise-append}
use Rattle.linspec.specs.Twins.{Enqueues, MayEnqueue}
use Rattle.queue_pairs.specs.Pairs.{Dequeues, HasDequeued, MayDequeue, IsLate}
use Rattle.wide_fifo_queue.specs.declared.known.Call.TheVariants as calls
use Rattle.wide_fifo_queue.specs.declared.known.Pending.{Pending}
use Rattle.wide_fifo_queue.specs.declared.known.Enqueued.{Enqueued}
use Rattle.wide_fifo_queue.specs.declared.known.Waiting.{Waiting}
use Rattle.wide_fifo_queue.specs.declared.known.Owed.{Owed}
use Rattle.wide_fifo_queue.specs.Facts.{StandsAt, ArePending, IsEntry, IsByValue, AreEntries, Waits, IsPassed, AreWaiting, AreOwed, AreMoments, Facts, AreFacts, call_by, later, is_other}
use Rattle.wide_fifo_queue.proofs.Moments.{stands_contains, stands_below, stands_last}
use Rattle.wide_fifo_queue.proofs.Laws.{invocation, crash}
use Rattle.wide_fifo_queue.proofs.Calls.{by_enqueues, by_dequeues}
use Rattle.wide_fifo_queue.proofs.Carrying.{one_more, kept_at, may_enqueue_was, entry_is, dequeued_was, taken_is, may_dequeue_is, may_dequeue_was, waits_is, waits_was, late_is, pending_without, pending_with}
use Rattle.wide_fifo_queue.proofs.Knowing.{dequeued_entry}

-- enqueues before and after a mark: the same values wait, and were passed over
pub record WaitTheSame (entered entered' : List Enqueued) (ms more : List Mark) : Type 0 where
  pub waits : (v : ℤ) (n : ℕ) → Waits entered ms v n → Waits entered' more v n
  pub waited : (v : ℤ) (n : ℕ) → Waits entered' more v n → Waits entered ms v n
  pub passed : (n t : ℕ) → IsPassed entered n t → IsPassed entered' n t
  pub was_passed : (n t : ℕ) → IsPassed entered' n t → IsPassed entered n t

module _ (entered entered' : List Enqueued) (ms more : List Mark) (same : WaitTheSame entered entered' ms more) where
  pub waiting_carried : (waiting : List Waiting) → AreWaiting entered waiting ms → AreWaiting entered' waiting more
  waiting_carried waiting are = record {
    is = λ w h. same.waits w.value w.by (are.is w h);
    not_passed = λ w t h p. are.not_passed w t h (same.was_passed w.by t p);
    in_order = are.in_order;
  }

  pub owed_carried : (owed : List Owed) → AreOwed entered owed ms → AreOwed entered' owed more
  owed_carried owed are = record {
    is = λ o h. same.waits o.value o.by (are.is o h);
    passed = λ o h. same.passed o.by o.deadline (are.passed o h);
    least = λ o t h p. are.least o t h (same.was_passed o.by t p);
    in_order = are.in_order;
  }

module _ (f : Facts) (ms : List Mark) (facts : AreFacts f ms) (m : Mark) (well : AreWellFormed (ms ++ m ∷ [])) (no_ok : (i : ℕ) (a : Answer) → m ≢ Returned i a) where
  abbrev more : List Mark
  more = ms ++ m ∷ []

  pub same_wait : WaitTheSame f.entered f.entered ms more
  same_wait = record {
    waits = λ v n w. waits_is ms m well f.entered v n w;
    waited = λ v n w. ⊎_elim (λ k. k) (λ e. absurd (no_ok w.entry.id w.answer e.0)) (waits_was ms m well f.entered v n w);
    passed = λ n t p. p;
    was_passed = λ n t p. p;
  }

  pub still_dequeued : (d : ℕ) (v : ℤ) → HasDequeued more d v → HasDequeued ms d v
  still_dequeued d v h = ⊎_elim (λ k. k) (λ e. absurd (no_ok d (Number v) e)) (dequeued_was ms m well d v h)

  pub entries_carried : ((e : Enqueued) → Contains f.entered e → m ≢ Failed e.id) → ((e : Enqueued) → Contains f.late e → m ≢ Failed e.id)
      → ((id : ℕ) (v : ℤ) → MayEnqueue more id v → IsInvoked ms id) → AreEntries f.entered f.late more
  entries_carried live live_late invoked = record {
    is = λ e h. entry_is ms m well e (facts.entries.is e h) (live e h);
    is_late = λ e h. (let k = facts.entries.is_late e h in (entry_is ms m well e k.0 (live_late e h), late_is ms m well e.id no_ok k.1, k.2, k.3));
    all = λ id v a. facts.entries.all id v (may_enqueue_was ms m well id v (invoked id v a) a);
    by_value = facts.entries.by_value;
    taken = λ e n h t. taken_is ms m well e.value n (facts.entries.taken e n h t);
    told = λ e d h k. facts.entries.told e d h (still_dequeued d e.value k);
  }

  pub takers_carried : ((id : ℕ) → MayDequeue ms id → m ≢ Failed id) → ((id : ℕ) → MayDequeue more id → IsInvoked ms id) → AreMoments f.takers more
  takers_carried live invoked = record {
    is = λ t h. (let k = facts.takers.is t h in (k.0, k.1, may_dequeue_is ms m well k.0 k.2 (λ a. no_ok k.0 a) (live k.0 k.2), kept_at ms m well t _ k.3));
    all = λ id may. (let k = facts.takers.all id (may_dequeue_was ms m well id (invoked id may) may) in (k.0, k.1, k.2, kept_at ms m well k.0 _ k.3));
    in_order = facts.takers.in_order;
  }

-- an info
module _ (f : Facts) (ms : List Mark) (facts : AreFacts f ms) (id : ℕ) (well : AreWellFormed (ms ++ Crashed id ∷ [])) where
  no_ok_is_crash : (i : ℕ) (a : Answer) → Crashed id ≢ Returned i a
  no_ok_is_crash i a e = cc

  invoked_by : (i : ℕ) (op : Op) → Contains (ms ++ Crashed id ∷ []) (Invoked i op) → IsInvoked ms i
  invoked_by i op h = (op, ⊎_elim (λ k. k) (λ e. cc) (Contains-push_cases ms (Crashed id) (Invoked i op) h))

  pub after_crash : AreFacts (later (filter (is_other id) f.pending) f) (ms ++ Crashed id ∷ [])
  after_crash = record {
    well = well;
    paired = (crash ms id well).1 facts.paired;
    now = one_more ms (Crashed id) f.now facts.now;
    pending = pending_without ms (Crashed id) tt f.pending facts.pending;
    entries = entries_carried f ms facts (Crashed id) well no_ok_is_crash (λ e h q. cc) (λ e h q. cc) (λ i v a. invoked_by i a.0.0 a.0.1);
    waiting = waiting_carried f.entered f.entered ms (ms ++ Crashed id ∷ []) (same_wait f ms facts (Crashed id) well no_ok_is_crash) f.waiting facts.waiting;
    owed = owed_carried f.entered f.entered ms (ms ++ Crashed id ∷ []) (same_wait f ms facts (Crashed id) well no_ok_is_crash) f.owed facts.owed;
    among = λ v n w. facts.among v n ((same_wait f ms facts (Crashed id) well no_ok_is_crash).waited v n w);
    takers = takers_carried f ms facts (Crashed id) well no_ok_is_crash (λ i h q. cc) (λ i h. invoked_by i h.op h.invoked);
  }

-- an invocation
module _ (f : Facts) (ms : List Mark) (facts : AreFacts f ms) (id : ℕ) (op : Op) (well : AreWellFormed (ms ++ Invoked id op ∷ [])) (p : Pending) (same_id : p.id ≡ id) (since : p.since ≡ f.now)
    (call : call_by op.name op.part ≡ p.call) where
  abbrev last : Mark
  last = Invoked id op

  abbrev with_it : List Mark
  with_it = ms ++ last ∷ []

  no_ok_is_invoked : (i : ℕ) (a : Answer) → last ≢ Returned i a
  no_ok_is_invoked i a e = cc

  new : IsNew ms id
  new = well ms [] last refl

  is_pending : ArePending (f.pending ++ p ∷ []) with_it
  is_pending = pending_with ms id op new f.pending p same_id (since ∙ facts.now) call facts.pending

  invoked_cases : (i : ℕ) (o : Op) → Contains with_it (Invoked i o) → IsInvoked ms i ⊎ ((i ≡ id) × (o ≡ op))
  invoked_cases i o h = ⊎_elim (λ k. inl (o, k)) (λ e. inr ((let q : i ≡ id = cc in q), (let q : o ≡ op = cc in q))) (Contains-push_cases ms last (Invoked i o) h)

  same : WaitTheSame f.entered f.entered ms with_it
  same = same_wait f ms facts last well no_ok_is_invoked

  no_enqueue : ((v : ℤ) → p.call ≢ calls.Enqueue v) → (i : ℕ) (v : ℤ) → MayEnqueue with_it i v → IsInvoked ms i
  no_enqueue none i v a = ⊎_elim
      (λ k. k)
      (λ e. absurd (none v (sym call ∙ ap (λ (o : Op). call_by o.name o.part) (sym e.1) ∙ by_enqueues a.0.0 v a.0.2)))
      (invoked_cases i a.0.0 a.0.1)

  no_dequeue : p.call ≢ calls.Dequeue → (i : ℕ) → MayDequeue with_it i → IsInvoked ms i
  no_dequeue none i a = ⊎_elim
      (λ k. k)
      (λ e. absurd (none (sym call ∙ ap (λ (o : Op). call_by o.name o.part) (sym e.1) ∙ by_dequeues a.op a.dequeues)))
      (invoked_cases i a.op a.invoked)

  same_entries : ((v : ℤ) → p.call ≢ calls.Enqueue v) → AreEntries f.entered f.late with_it
  same_entries none = entries_carried f ms facts last well no_ok_is_invoked (λ e h q. cc) (λ e h q. cc) (no_enqueue none)

  same_takers : p.call ≢ calls.Dequeue → AreMoments f.takers with_it
  same_takers none = takers_carried f ms facts last well no_ok_is_invoked (λ i h q. cc) (no_dequeue none)

  with_entries : (entered late : List Enqueued) (takers : List ℕ) → WaitTheSame f.entered entered ms with_it → AreEntries entered late with_it → AreMoments takers with_it
      → AreFacts (record (later (f.pending ++ p ∷ []) f) { entered = entered; late = late; takers = takers }) with_it
  with_entries entered late takers waits entries are = record {
    well = well;
    paired = (invocation ms id op well).1 facts.paired;
    now = one_more ms last f.now facts.now;
    pending = is_pending;
    entries = entries;
    waiting = waiting_carried f.entered entered ms with_it waits f.waiting facts.waiting;
    owed = owed_carried f.entered entered ms with_it waits f.owed facts.owed;
    among = λ v n w. facts.among v n (waits.waited v n w);
    takers = are;
  }

  pub after_other : p.call ≡ calls.Other → AreFacts (later (f.pending ++ p ∷ []) f) with_it
  after_other is = with_entries f.entered f.late f.takers same (same_entries (λ v q. (let r : calls.Other ≡ calls.Enqueue v = sym is ∙ q in cc))) (same_takers (λ q. (let r : calls.Other ≡ calls.Dequeue = sym is ∙ q in cc)))

  pub after_dequeue : Dequeues op → AreFacts (record (later (f.pending ++ p ∷ []) f) { takers = f.takers ++ p.since ∷ [] }) with_it
  after_dequeue dequeues = with_entries f.entered f.late (f.takers ++ p.since ∷ []) same (same_entries (λ v q. (let r : calls.Dequeue ≡ calls.Enqueue v = sym (sym call ∙ by_dequeues op dequeues) ∙ q in absurd (no_dequeue_enqueues v r)))) (record {
    is = λ t h. ⊎_elim
        (λ k. (let i = facts.takers.is t k in (i.0, i.1, may_dequeue_is ms last well i.0 i.2 (λ a q. cc) (λ q. cc), kept_at ms last well t _ i.3)))
        (λ e. (id, op, may, subst (λ n. StandsAt with_it n last) (sym (sym e ∙ since ∙ facts.now)) (stands_last ms last)))
        (Contains-push_cases f.takers p.since t h);
    all = λ i a. ⊎_elim
        (λ k. (let j = facts.takers.all i (may_dequeue_was ms last well i k a) in (j.0, j.1, Contains-append_left f.takers (p.since ∷ []) j.0 j.2, kept_at ms last well j.0 _ j.3)))
        (λ e. (p.since, op, Contains-push f.takers p.since, subst (λ j. StandsAt with_it p.since (Invoked j op)) (sym e.0) (subst (λ n. StandsAt with_it n last) (sym (since ∙ facts.now)) (stands_last ms last))))
        (invoked_cases i a.op a.invoked);
    in_order = Pairwise-append (λ s t. s < t) f.takers (p.since ∷ []) facts.takers.in_order ((λ y k. absurd (Contains-nil y k)), tt) (λ s t h k.
        let i = facts.takers.is s h in
        let lt : s < length ms = stands_below ms s _ i.3 in
        let e : p.since ≡ length ms = since ∙ facts.now in
        ⊎_elim (λ (q : p.since ≡ t). (let r : s < t = omega arith in r)) (λ j. absurd (Contains-nil t j)) (Contains-cons_cases p.since [] t k));
  })
    where
      no_dequeue_enqueues : (v : ℤ) → calls.Dequeue ≢ calls.Enqueue v
      no_dequeue_enqueues v e = cc

      may : MayDequeue with_it id
      may = record {
        op = op;
        invoked = Contains-push ms last;
        dequeues = dequeues;
        not_returned = λ r. ⊎_elim (λ k. new _ k refl) (λ e. cc) (Contains-push_cases ms last _ r.1);
        not_failed = λ k. ⊎_elim (λ j. new _ j refl) (λ e. cc) (Contains-push_cases ms last _ k);
      }

  -- an enqueue
  module _ (e : Enqueued) (own_id : e.id ≡ id) (own_since : e.since ≡ f.now) (untaken : e.taken ≡ None) (enqueues : Enqueues op e.value) where
    is_new_entry : IsEntry with_it e
    is_new_entry = record {
      op = op;
      enqueues = enqueues;
      stands = subst (λ i. StandsAt with_it e.since (Invoked i op)) (sym own_id) (subst (λ n. StandsAt with_it n last) (sym (own_since ∙ facts.now)) (stands_last ms last));
      not_failed = λ k. ⊎_elim (λ j. new (Failed e.id) j own_id) (λ q. cc) (Contains-push_cases ms last (Failed e.id) k);
    }

    no_taker : p.call ≢ calls.Dequeue
    no_taker q = let r : calls.Enqueue e.value ≡ calls.Dequeue = sym (by_enqueues op e.value enqueues) ∙ call ∙ q in cc

    -- its value, if the operation is the last
    its_value : (i : ℕ) (v : ℤ) (a : MayEnqueue with_it i v) → a.0.0 ≡ op → e.value ≡ v
    its_value i v a q = let r : calls.Enqueue e.value ≡ calls.Enqueue v = sym (by_enqueues op e.value enqueues) ∙ ap (λ (o : Op). call_by o.name o.part) (sym q) ∙ by_enqueues a.0.0 v a.0.2 in cc

    abbrev IsLateTwin : Enqueued → Type 0
    IsLateTwin x = IsEntry with_it x × IsLate with_it x.id × (x.taken ≡ None) × ((y : Enqueued) × Contains f.entered y × (y.value ≡ x.value) × (y.id ≢ x.id))

    pub after_twin : (o : Enqueued) → Contains f.entered o → o.value ≡ e.value → AreFacts (record (later (f.pending ++ p ∷ []) f) { late = f.late ++ e ∷ [] }) with_it
    after_twin o h is = with_entries f.entered (f.late ++ e ∷ []) f.takers same (record {
      is = λ x k. entry_is ms last well x (facts.entries.is x k) (λ q. cc);
      is_late = λ x k. ⊎_elim
          (λ j. (let i = facts.entries.is_late x j in (entry_is ms last well x i.0 (λ q. cc), late_is ms last well x.id no_ok_is_invoked i.1, i.2, i.3)))
          (λ q. subst IsLateTwin q (
            is_new_entry,
            (λ d r. ⊎_elim
                (λ j. record { before = ms; after = last ∷ []; cut = refl; returned = (r.0, j); invoked = (op, subst (λ i. Contains (last ∷ []) (Invoked i op)) (sym own_id) (Contains-head last [])) })
                (λ g. cc)
                (Contains-push_cases ms last (Returned d r.0) r.1)),
            untaken,
            (o, h, is, λ g. (let i = (facts.entries.is o h).stands in new (Invoked o.id (facts.entries.is o h).op) (stands_contains ms o.since _ i) (g ∙ own_id))),
          ))
          (Contains-push_cases f.late e x k);
      all = λ i v a. ⊎_elim
          (λ k. (let j = facts.entries.all i v (may_enqueue_was ms last well i v k a) in (j.0, ⊎_elim inl (λ l. inr (Contains-append_left f.late (e ∷ []) j.0 l)) j.1, j.2, j.3)))
          (λ q. (e, inr (Contains-push f.late e), own_id ∙ sym q.0, its_value i v a q.1))
          (invoked_cases i a.0.0 a.0.1);
      by_value = facts.entries.by_value;
      taken = λ x n k t. taken_is ms last well x.value n (facts.entries.taken x n k t);
      told = λ x d k j. facts.entries.told x d k (still_dequeued f ms facts last well no_ok_is_invoked d x.value j);
    }) (same_takers no_taker)

    module _ (entered : List Enqueued) (by : IsByValue entered) (none : (x : Enqueued) → Contains f.entered x → x.value ≢ e.value)
        (is : (x : Enqueued) → Contains entered x ↔ ((x ≡ e) ⊎ (Contains f.entered x × (x.value ≢ e.value)))) where
      was : (x : Enqueued) → Contains entered x → (x ≡ e) ⊎ Contains f.entered x
      was x k = ⊎_elim inl (λ j. inr j.0) ((is x).0 k)

      stays : (x : Enqueued) → Contains f.entered x → Contains entered x
      stays x k = (is x).1 (inr (k, none x k))

      wait_with : WaitTheSame f.entered entered ms with_it
      wait_with = record {
        waits = λ v n w. record { entry = w.entry; here = stays w.entry w.here; value = w.value; stays = w.stays; answer = w.answer; stands = kept_at ms last well n _ w.stands };
        waited = λ v n w. ⊎_elim
            (λ (q : w.entry ≡ e). absurd (⊎_elim
            (λ k. new _ k (ap (λ (x : Enqueued). x.id) q ∙ own_id))
            (λ g. cc)
            (Contains-push_cases ms last (Returned w.entry.id w.answer) (stands_contains with_it n _ w.stands))))
            (λ k. same.waited v n (record { entry = w.entry; here = k; value = w.value; stays = w.stays; answer = w.answer; stands = w.stands }))
            (was w.entry w.here);
        passed = λ n t q. record { entry = q.entry; here = stays q.entry q.here; taken = q.taken; after = q.after };
        was_passed = λ n t q. ⊎_elim
            (λ (r : q.entry ≡ e). (let s : None ≡ Some t = sym untaken ∙ ap (λ (x : Enqueued). x.taken) (sym r) ∙ q.taken in cc))
            (λ k. record { entry = q.entry; here = k; taken = q.taken; after = q.after })
            (was q.entry q.here);
      }

      pub after_first : AreFacts (record (later (f.pending ++ p ∷ []) f) { entered = entered }) with_it
      after_first = with_entries entered f.late f.takers wait_with (record {
        is = λ x k. ⊎_elim
            (λ q. subst (IsEntry with_it) (sym q) is_new_entry)
            (λ j. entry_is ms last well x (facts.entries.is x j) (λ q. cc))
            (was x k);
        is_late = λ x k. (let i = facts.entries.is_late x k in (entry_is ms last well x i.0 (λ q. cc), late_is ms last well x.id no_ok_is_invoked i.1, i.2, (i.3.0, stays i.3.0 i.3.1, i.3.2, i.3.3)));
        all = λ i v a. ⊎_elim
            (λ k. (let j = facts.entries.all i v (may_enqueue_was ms last well i v k a) in (j.0, ⊎_elim (λ l. inl (stays j.0 l)) inr j.1, j.2, j.3)))
            (λ q. (e, inl ((is e).1 (inl refl)), own_id ∙ sym q.0, its_value i v a q.1))
            (invoked_cases i a.0.0 a.0.1);
        by_value = by;
        taken = λ x n k t. ⊎_elim
            (λ q. (let s : None ≡ Some n = sym untaken ∙ ap (λ (y : Enqueued). y.taken) (sym q) ∙ t in cc))
            (λ j. taken_is ms last well x.value n (facts.entries.taken x n j t))
            (was x k);
        told = λ x d k j.
            let before = still_dequeued f ms facts last well no_ok_is_invoked d x.value j in
            ⊎_elim
            (λ q. absurd (let i = dequeued_entry f ms facts d x.value before in none i.0 i.2 (i.3 ∙ ap (λ (y : Enqueued). y.value) q)))
            (λ i. facts.entries.told x d i before)
            (was x k);
      }) (same_takers no_taker)
