-- the facts after a fail
use Rattle.std.proofs.Common.{◌≡◌, ◌≢◌, ◌↔◌, ℕ, ℤ, ◌⊎◌, inl, inr, ⊎_elim, Some, None, List, [], ◌∷◌, ◌++◌, refl, sym, ap, ◌∙◌, subst}
use Rattle.std.specs.List.{Contains, filter}
use Rattle.std.proofs.lemmas.List.Elements.{Contains-push, Contains-push_cases}
use Rattle.models.specs.declared.operation.Op.{Op}
use Rattle.models.specs.declared.finding.Answer.{Answer}
use Rattle.events.specs.Events.{Mark}
use Rattle.events.specs.Events.Mark.{Invoked, Returned, Failed}
use Rattle.linspec.specs.Operations.{IsInvoked, IsOpen, HasReturned, Precedes}
use Rattle.linspec.specs.MarkRule.{AreWellFormed}
use Rattle.linspec.proofs.Filters.{from_filter, to_filter}
use Rattle.linspec.specs.Twins.{IsEnqueueOf, MayEnqueue}
use Rattle.queue_pairs.specs.Pairs.{HasDequeued, IsOwedTo, MayDequeue, IsPaired, MayFail}
use Rattle.wide_fifo_queue.specs.declared.known.Call.TheVariants as calls
use Rattle.wide_fifo_queue.specs.declared.known.Pending.{Pending}
use Rattle.wide_fifo_queue.specs.declared.known.Enqueued.{Enqueued}
use Rattle.wide_fifo_queue.specs.Facts.{IsEntry, IsByValue, AreEntries, AreMoments, IsServed, Facts, AreFacts, later, is_other, is_other_enqueue}
use Rattle.wide_fifo_queue.proofs.Moments.{stands_contains}
use Rattle.queue_pairs.proofs.Once.{one_op, not_before_itself}
use Rattle.wide_fifo_queue.proofs.Laws.{fail}
use Rattle.wide_fifo_queue.proofs.Calls.{no_both, no_enqueue_of_call}
use Rattle.wide_fifo_queue.proofs.Carrying.{not_same, is_not_same, same_or_not, one_more, may_enqueue_was, entry_is, taken_is, may_dequeue_was, late_is, kept_at, pending_without}
use Rattle.wide_fifo_queue.proofs.Knowing.{same_value, one_entry, is_entry, entry_enqueues, twins_late}
use Rattle.wide_fifo_queue.proofs.Serving.{same_int_or_not}
use Rattle.wide_fifo_queue.proofs.Leaving.{others, others_after, may_fail, served}
use Rattle.wide_fifo_queue.proofs.Events.{WaitTheSame, waiting_carried, owed_carried, same_wait, still_dequeued, entries_carried, takers_carried}

pub no_ok_is_fail : (id i : ℕ) (a : Answer) → Failed id ≢ Returned i a
no_ok_is_fail id i a e = cc

pub other_failed : (a b : ℕ) → a ≢ b → Failed a ≢ Failed b
other_failed a b ne e = ne (let q : a ≡ b = cc in q)

module _ (f : Facts) (ms : List Mark) (facts : AreFacts f ms) (id : ℕ) (well : AreWellFormed (ms ++ Failed id ∷ [])) where
  abbrev pub failed : List Mark
  failed = ms ++ Failed id ∷ []

  is_open : IsOpen ms id
  is_open = well ms [] (Failed id) refl

  pub invoked_by : (i : ℕ) (op : Op) → Contains failed (Invoked i op) → IsInvoked ms i
  invoked_by i op h = (op, ⊎_elim (λ k. k) (λ e. cc) (Contains-push_cases ms (Failed id) (Invoked i op) h))

  pub not_itself : (i : ℕ) → ¬ Contains failed (Failed i) → i ≢ id
  not_itself i n e = n (subst (λ j. Contains failed (Failed j)) (sym e) (Contains-push ms (Failed id)))

  same : WaitTheSame f.entered f.entered ms failed
  same = same_wait f ms facts (Failed id) well (no_ok_is_fail id)

  pub after_fail : MayFail ms id → (entered late : List Enqueued) (takers : List ℕ) → WaitTheSame f.entered entered ms failed → AreEntries entered late failed → AreMoments takers failed
      → AreFacts (record (later (filter (is_other id) f.pending) f) { entered = entered; late = late; takers = takers }) failed
  after_fail may entered late takers waits entries are = record {
    well = well;
    paired = (fail ms id well (twins_late f ms facts)).1 (facts.paired, may);
    now = one_more ms (Failed id) f.now facts.now;
    pending = pending_without ms (Failed id) tt f.pending facts.pending;
    entries = entries;
    waiting = waiting_carried f.entered entered ms failed waits f.waiting facts.waiting;
    owed = owed_carried f.entered entered ms failed waits f.owed facts.owed;
    among = λ v n w. facts.among v n (waits.waited v n w);
    takers = are;
  }

  -- only a dequeue gives a value a taker
  pub takers_stay : ((op : Op) → Contains ms (Invoked id op) → (m : MayDequeue ms id) → ⊥) → AreMoments f.takers failed
  takers_stay none = takers_carried f ms facts (Failed id) well (no_ok_is_fail id)
      (λ i m q. (let e : id ≡ i = cc in none m.op (subst (λ j. Contains ms (Invoked j m.op)) (sym e) m.invoked) (subst (MayDequeue ms) (sym e) m)))
      (λ i h. invoked_by i h.op h.invoked)

  pub no_taker : ¬ MayDequeue ms id → (u : ℤ) (d : ℕ) → IsOwedTo ms u d → facts.paired.taken.0 u ≢ id
  no_taker none u d o e = none (subst (MayDequeue ms) e (facts.paired.taken.1.may u d o))

  -- an operation that is none of a queue
  pub after_other : ((v : ℤ) → ¬ IsEnqueueOf ms id v) → ¬ MayDequeue ms id → AreFacts (later (filter (is_other id) f.pending) f) failed
  after_other no_enqueue no_dequeue = after_fail
      (record { added = λ d v h a. absurd (no_enqueue v a); taken = (facts.paired.taken.0, facts.paired.taken.1, no_taker no_dequeue) })
      f.entered f.late f.takers same
      (entries_carried f ms facts (Failed id) well (no_ok_is_fail id)
      (λ e h. other_failed id e.id (λ q. no_enqueue e.value (subst (λ i. IsEnqueueOf ms i e.value) (sym q) (is_entry f ms facts e h).0)))
      (λ e h. other_failed id e.id (λ q. no_enqueue e.value (subst (λ i. IsEnqueueOf ms i e.value) (sym q) (entry_enqueues f ms facts e (facts.entries.is_late e h).0).0)))
      (λ i v a. invoked_by i a.0.0 a.0.1))
      (takers_stay (λ op h m. no_dequeue m))

  -- an enqueue
  module _ (v : ℤ) (own : IsEnqueueOf ms id v) where
    its_value : (w : ℤ) → IsEnqueueOf ms id w → v ≡ w
    its_value w a = same_value v w own.0 a.0 (one_op ms facts.well id own.0 a.0 own.1 a.1) own.2 a.2

    no_dequeue : ¬ MayDequeue ms id
    no_dequeue m = no_both m.op v (let e : own.0 ≡ m.op = one_op ms facts.well id own.0 m.op own.1 m.invoked in (ap (λ (o : Op). o.name) (sym e) ∙ own.2.0, ap (λ (o : Op). o.part) (sym e) ∙ own.2.1)) m.dequeues

    module _ (first : Enqueued) (here : Contains f.entered first) (is : first.value ≡ v) where
      -- another entry has another value
      other_entry : (e : Enqueued) → Contains f.entered e → e.value ≡ v → e ≡ first
      other_entry e h q = one_entry f.entered facts.entries.by_value e first h here (q ∙ sym is)

      id_entry : (e : Enqueued) → Contains f.entered e → e.id ≡ id → e ≡ first
      id_entry e h q = other_entry e h (sym (its_value e.value (subst (λ i. IsEnqueueOf ms i e.value) q (is_entry f ms facts e h).0)))

      -- the enqueue of a value that was dequeued is the first
      first_added : (d : ℕ) → HasDequeued ms d v → ¬ Precedes ms d first.id
      first_added d h =
          let a = facts.paired.added d v h in
          let k = facts.entries.all a.0 v a.1 in
          ⊎_elim
          (λ i. subst (λ j. ¬ Precedes ms d j) (sym k.2 ∙ ap (λ (e : Enqueued). e.id) (other_entry k.0 i k.3)) a.2)
          (λ i. absurd (a.2 (subst (Precedes ms d) k.2 ((facts.entries.is_late k.0 i).1 d (_, h.answer)))))
          k.1

      -- a late one
      module _ (other : first.id ≢ id) where
        abbrev pub late_but : List Enqueued
        late_but = filter (is_other_enqueue id) f.late

        late_entries : AreEntries f.entered late_but failed
        late_entries = record {
          is = λ e h. entry_is ms (Failed id) well e (facts.entries.is e h) (other_failed id e.id (λ q. other (sym (ap (λ (x : Enqueued). x.id) (id_entry e h (sym q))) ∙ sym q)));
          is_late = λ e h.
              let j = from_filter (is_other_enqueue id) f.late e h in
              let k = facts.entries.is_late e j.0 in
              (entry_is ms (Failed id) well e k.0 (other_failed id e.id (λ q. not_same e.id id j.1 (sym q))), late_is ms (Failed id) well e.id (no_ok_is_fail id) k.1, k.2, k.3);
          all = λ i w a.
              let k = facts.entries.all i w (may_enqueue_was ms (Failed id) well i w (invoked_by i a.0.0 a.0.1) a) in
              (k.0, ⊎_elim inl (λ l. inr (to_filter (is_other_enqueue id) f.late k.0 l (is_not_same k.0.id id (λ q. not_itself i a.1 (sym k.2 ∙ q))))) k.1, k.2, k.3);
          by_value = facts.entries.by_value;
          taken = λ e n h t. taken_is ms (Failed id) well e.value n (facts.entries.taken e n h t);
          told = λ e d h k. facts.entries.told e d h (still_dequeued f ms facts (Failed id) well (no_ok_is_fail id) d e.value k);
        }

        pub after_late_fail : AreFacts (record (later (filter (is_other id) f.pending) f) { late = late_but }) failed
        after_late_fail = after_fail
            (record {
              added = λ d w h a. (first.id, subst (MayEnqueue ms first.id) (is ∙ its_value w a) (is_entry f ms facts first here), first_added d (subst (HasDequeued ms d) (sym (its_value w a)) h), other);
              taken = (facts.paired.taken.0, facts.paired.taken.1, no_taker no_dequeue);
            })
            f.entered late_but f.takers same late_entries (takers_stay (λ op h m. no_dequeue m))

      -- the first one
      module _ (own_id : first.id ≡ id) where
        -- no other keeps what was dequeued
        pub killed : (n : ℕ) → first.taken ≡ Some n → ¬ IsPaired failed
        killed n taken paired =
            let t = facts.entries.taken first n here taken in
            let h : HasDequeued ms t.0 v = subst (HasDequeued ms t.0) is t.1 in
            let a = ((fail ms id well (twins_late f ms facts)).0 paired).1.added t.0 v h own in
            let k = facts.entries.all a.0 v a.1 in
            ⊎_elim
            (λ i. a.3 (sym k.2 ∙ ap (λ (e : Enqueued). e.id) (other_entry k.0 i k.3) ∙ own_id))
            (λ i. a.2 (subst (Precedes ms t.0) k.2 ((facts.entries.is_late k.0 i).1 t.0 (_, h.answer))))
            k.1

        module _ (stays : first.taken ≡ None) where
          not_dequeued : (d : ℕ) → ¬ HasDequeued ms d v
          not_dequeued d h = let t = facts.entries.told first d here (subst (HasDequeued ms d) (sym is) h) in let q : None ≡ Some t.0 = sym stays ∙ t.1 in cc

          may : MayFail ms id
          may = record {
            added = λ d w h a. absurd (not_dequeued d (subst (HasDequeued ms d) (sym (its_value w a)) h));
            taken = (facts.paired.taken.0, facts.paired.taken.1, no_taker no_dequeue);
          }

          module _ (entered : List Enqueued) (out : (e : Enqueued) → Contains f.entered e → e.value ≢ v → Contains entered e)
              (from : (e : Enqueued) → Contains entered e → (Contains f.entered e × (e.value ≢ v)) ⊎ ((e.value ≡ v) × (e.taken ≡ None) × (¬ HasReturned ms e.id))) where
            waits_without : WaitTheSame f.entered entered ms failed
            waits_without = record {
              waits = λ u n w. record {
                entry = w.entry;
                here = out w.entry w.here (λ q. is_open.not_returned (w.answer, subst (λ i. Contains ms (Returned i w.answer)) (ap (λ (e : Enqueued). e.id) (other_entry w.entry w.here q) ∙ own_id) (stands_contains ms n _ w.stands)));
                value = w.value;
                stays = w.stays;
                answer = w.answer;
                stands = kept_at ms (Failed id) well n _ w.stands;
              };
              waited = λ u n w.
                  let before : Contains ms (Returned w.entry.id w.answer) = ⊎_elim (λ k. k) (λ e. cc) (Contains-push_cases ms (Failed id) (Returned w.entry.id w.answer) (stands_contains failed n _ w.stands)) in
                  ⊎_elim
                  (λ k. same.waited u n (record { entry = w.entry; here = k.0; value = w.value; stays = w.stays; answer = w.answer; stands = w.stands }))
                  (λ k. absurd (k.2 (w.answer, before)))
                  (from w.entry w.here);
              passed = λ n t q. record {
                entry = q.entry;
                here = out q.entry q.here (λ r. (let s : None ≡ Some t = sym stays ∙ ap (λ (e : Enqueued). e.taken) (sym (other_entry q.entry q.here r)) ∙ q.taken in cc));
                taken = q.taken;
                after = q.after;
              };
              was_passed = λ n t q. ⊎_elim
                  (λ k. record { entry = q.entry; here = k.0; taken = q.taken; after = q.after })
                  (λ k. (let s : None ≡ Some t = sym k.1 ∙ q.taken in cc))
                  (from q.entry q.here);
            }

            pub with_entries : (late : List Enqueued) → AreEntries entered late failed → AreFacts (record (later (filter (is_other id) f.pending) f) { entered = entered; late = late }) failed
            with_entries late entries = after_fail may entered late f.takers waits_without entries (takers_stay (λ op h m. no_dequeue m))

            told_of_others : (e : Enqueued) (d : ℕ) → Contains entered e → HasDequeued failed d e.value → (n : ℕ) × (e.taken ≡ Some n)
            told_of_others e d h k =
                let before = still_dequeued f ms facts (Failed id) well (no_ok_is_fail id) d e.value k in
                ⊎_elim
                (λ i. facts.entries.told e d i.0 before)
                (λ i. absurd (not_dequeued d (subst (HasDequeued ms d) i.0 before)))
                (from e h)

            taken_of_others : (e : Enqueued) (n : ℕ) → Contains entered e → e.taken ≡ Some n → (Contains f.entered e)
            taken_of_others e n h t = ⊎_elim (λ i. i.0) (λ i. (let s : None ≡ Some n = sym i.1 ∙ t in cc)) (from e h)

            -- an entry of another value has not failed
            alive : (e : Enqueued) → Contains f.entered e → e.value ≢ v → Failed id ≢ Failed e.id
            alive e h ne = other_failed id e.id (λ q. ne (ap (λ (x : Enqueued). x.value) (id_entry e h (sym q)) ∙ is))

          module _ (entered : List Enqueued) (by : IsByValue entered) (has : (e : Enqueued) → Contains entered e ↔ (Contains f.entered e × (e.value ≢ v)))
              (none : (e : Enqueued) → Contains f.late e → e.value ≢ v) where
            out' : (e : Enqueued) → Contains f.entered e → e.value ≢ v → Contains entered e
            out' e h ne = (has e).1 (h, ne)

            from' : (e : Enqueued) → Contains entered e → (Contains f.entered e × (e.value ≢ v)) ⊎ ((e.value ≡ v) × (e.taken ≡ None) × (¬ HasReturned ms e.id))
            from' e h = inl ((has e).0 h)

            pub after_only_fail : AreFacts (record (later (filter (is_other id) f.pending) f) { entered = entered }) failed
            after_only_fail = with_entries entered out' from' f.late (record {
              is = λ e h. (let k = (has e).0 h in entry_is ms (Failed id) well e (facts.entries.is e k.0) (alive entered out' from' e k.0 k.1));
              is_late = λ e h.
                  let k = facts.entries.is_late e h in
                  let ne = none e h in (
                    entry_is ms (Failed id) well e k.0 (other_failed id e.id (λ q. ne (sym (its_value e.value (subst (λ i. IsEnqueueOf ms i e.value) (sym q) (entry_enqueues f ms facts e k.0).0))))),
                    late_is ms (Failed id) well e.id (no_ok_is_fail id) k.1,
                    k.2,
                    (k.3.0, out' k.3.0 k.3.1 (λ q. ne (sym k.3.2 ∙ q)), k.3.2, k.3.3),
                  );
              all = λ i w a.
                  let k = facts.entries.all i w (may_enqueue_was ms (Failed id) well i w (invoked_by i a.0.0 a.0.1) a) in (
                    k.0,
                    ⊎_elim
                        (λ l. inl (out' k.0 l (λ q. not_itself i a.1 (sym k.2 ∙ ap (λ (x : Enqueued). x.id) (other_entry k.0 l q) ∙ own_id))))
                        inr
                        k.1,
                    k.2,
                    k.3,
                  );
              by_value = by;
              taken = λ e n h t. taken_is ms (Failed id) well e.value n (facts.entries.taken e n (taken_of_others entered out' from' e n h t) t);
              told = λ e d h k. told_of_others entered out' from' e d h k;
            })

          module _ (next : Enqueued) (is_late : Contains f.late next) (next_is : next.value ≡ v) (entered : List Enqueued) (by : IsByValue entered)
              (has : (e : Enqueued) → Contains entered e ↔ ((e ≡ next) ⊎ (Contains f.entered e × (e.value ≢ v)))) where
            late_next : (e : Enqueued) → Contains f.late e → e.id ≢ id
            late_next e h q =
                let k = facts.entries.is_late e h in
                let w : v ≡ e.value = its_value e.value (subst (λ i. IsEnqueueOf ms i e.value) q (entry_enqueues f ms facts e k.0).0) in
                k.3.3 (ap (λ (x : Enqueued). x.id) (other_entry k.3.0 k.3.1 (k.3.2 ∙ sym w)) ∙ own_id ∙ sym q)

            out_next : (e : Enqueued) → Contains f.entered e → e.value ≢ v → Contains entered e
            out_next e h ne = (has e).1 (inr (h, ne))

            from_next : (e : Enqueued) → Contains entered e → (Contains f.entered e × (e.value ≢ v)) ⊎ ((e.value ≡ v) × (e.taken ≡ None) × (¬ HasReturned ms e.id))
            from_next e h = ⊎_elim
                (λ q. inr (
                  ap (λ (x : Enqueued). x.value) q ∙ next_is,
                  ap (λ (x : Enqueued). x.taken) q ∙ (facts.entries.is_late next is_late).2,
                  λ r. not_before_itself ms facts.well e.id (subst (λ (x : Enqueued). Precedes ms e.id x.id) (sym q) ((facts.entries.is_late next is_late).1 e.id r)),
                ))
                inl
                ((has e).0 h)

            abbrev pub late_others : List Enqueued
            late_others = filter (is_other_enqueue next.id) f.late

            pub after_first_fail : AreFacts (record (later (filter (is_other id) f.pending) f) { entered = entered; late = late_others }) failed
            after_first_fail = with_entries entered out_next from_next late_others (record {
              is = λ e h. ⊎_elim
                  (λ q. subst (IsEntry failed) (sym q) (entry_is ms (Failed id) well next (facts.entries.is_late next is_late).0 (other_failed id next.id (λ r. late_next next is_late (sym r)))))
                  (λ k. entry_is ms (Failed id) well e (facts.entries.is e k.0) (alive entered out_next from_next e k.0 k.1))
                  ((has e).0 h);
              is_late = λ e h.
                  let j = from_filter (is_other_enqueue next.id) f.late e h in
                  let k = facts.entries.is_late e j.0 in (
                    entry_is ms (Failed id) well e k.0 (other_failed id e.id (λ q. late_next e j.0 (sym q))),
                    late_is ms (Failed id) well e.id (no_ok_is_fail id) k.1,
                    k.2,
                    ⊎_elim
                        (λ (q : k.3.0.value ≡ v). (next, (has next).1 (inl refl), next_is ∙ sym q ∙ k.3.2, λ r. not_same e.id next.id j.1 (sym r)))
                        (λ (n : k.3.0.value ≢ v). (k.3.0, out_next k.3.0 k.3.1 n, k.3.2, k.3.3))
                        (same_int_or_not k.3.0.value v),
                  );
              all = λ i w a.
                  let k = facts.entries.all i w (may_enqueue_was ms (Failed id) well i w (invoked_by i a.0.0 a.0.1) a) in
                  ⊎_elim
                  (λ l. (k.0, inl (out_next k.0 l (λ q. not_itself i a.1 (sym k.2 ∙ ap (λ (x : Enqueued). x.id) (other_entry k.0 l q) ∙ own_id))), k.2, k.3))
                  (λ l. ⊎_elim
                  (λ (q : k.0.id ≡ next.id).
                  let b = (entry_enqueues f ms facts k.0 (facts.entries.is_late k.0 l).0).0 in
                  let c = (entry_enqueues f ms facts next (facts.entries.is_late next is_late).0).0 in
                  let z : k.0.value ≡ next.value = same_value k.0.value next.value b.0 c.0 (one_op ms facts.well next.id b.0 c.0 (subst (λ x. Contains ms (Invoked x b.0)) q b.1) c.1) b.2 c.2 in
                  (next, inl ((has next).1 (inl refl)), sym q ∙ k.2, sym z ∙ k.3))
                  (λ (n : k.0.id ≢ next.id). (k.0, inr (to_filter (is_other_enqueue next.id) f.late k.0 l (is_not_same k.0.id next.id n)), k.2, k.3))
                  (same_or_not k.0.id next.id))
                  k.1;
              by_value = by;
              taken = λ e n h t. taken_is ms (Failed id) well e.value n (facts.entries.taken e n (taken_of_others entered out_next from_next e n h t) t);
              told = λ e d h k. told_of_others entered out_next from_next e d h k;
            })

-- a dequeue
module _ (f : Facts) (ms : List Mark) (facts : AreFacts f ms) (p : Pending) (h : Contains f.pending p) (dequeues : p.call ≡ calls.Dequeue) (well : AreWellFormed (ms ++ Failed p.id ∷ [])) where
  pub after_no_take : IsServed (others f ms facts p h) f.owed → AreFacts (record (later (filter (is_other p.id) f.pending) f) { takers = others f ms facts p h }) (ms ++ Failed p.id ∷ [])
  after_no_take serves = after_fail f ms facts p.id well (may_fail f ms facts p h dequeues serves) f.entered f.late (others f ms facts p h)
      (same_wait f ms facts (Failed p.id) well (no_ok_is_fail p.id))
      (entries_carried f ms facts (Failed p.id) well (no_ok_is_fail p.id)
      (λ e i. other_failed p.id e.id (λ q. no_enqueue_of_call f ms facts p h dequeues e.value (subst (λ j. IsEnqueueOf ms j e.value) (sym q) (is_entry f ms facts e i).0)))
      (λ e i. other_failed p.id e.id (λ q. no_enqueue_of_call f ms facts p h dequeues e.value (subst (λ j. IsEnqueueOf ms j e.value) (sym q) (entry_enqueues f ms facts e (facts.entries.is_late e i).0).0)))
      (λ i v a. invoked_by f ms facts p.id well i a.0.0 a.0.1))
      (others_after f ms facts p h (Failed p.id) well (λ i ne. (no_ok_is_fail p.id i, other_failed p.id i (λ q. ne (sym q))))
      (λ i m. (may_dequeue_was ms (Failed p.id) well i (invoked_by f ms facts p.id well i m.op m.invoked) m, not_itself f ms facts p.id well i m.not_failed)))

  pub killed_by_no_take : ¬ IsServed (others f ms facts p h) f.owed → ¬ IsPaired (ms ++ Failed p.id ∷ [])
  killed_by_no_take none paired = none (served f ms facts p h ((fail ms p.id well (twins_late f ms facts)).0 paired).1)
