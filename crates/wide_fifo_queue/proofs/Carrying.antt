-- what is known stays known with one more mark, apart from what that mark says
use Rattle.std.proofs.Common.{◌≡◌, ◌≢◌, ℕ, ◌+◌, ℤ, ◌⊎◌, inl, inr, ⊎_elim, List, [], ◌∷◌, ◌++◌, length, refl, sym, ap, ◌∙◌, subst, append_assoc, nat_eq, not, true, arith, length-append}
use Rattle.std.specs.List.{Contains, filter}
use Rattle.std.proofs.lemmas.List.Elements.{Contains-append_left, Contains-push, Contains-push_cases}
use Rattle.std.proofs.lemmas.Bool.{cases_Bool, true≢false, eqb-true, eq-eqb, ne_eqb}
use Rattle.models.specs.declared.operation.Op.{Op}
use Rattle.models.specs.declared.finding.Answer.{Answer}
use Rattle.models.specs.declared.finding.Answer.TheVariants.{Number}
use Rattle.events.specs.Events.{Mark}
use Rattle.events.specs.Events.Mark.{Invoked, Returned, Failed}
use Rattle.linspec.specs.Operations.{IsInvoked, IsOpen}
use Rattle.linspec.specs.MarkRule.{id_of, IsNew, MayFollow, AreWellFormed}
use Rattle.linspec.proofs.Lists.{snoc_cut}
use Rattle.linspec.proofs.Open.{IsCompletion, was_open, stays_open, open_with_new, open_without_new, new_is_open}
use Rattle.linspec.proofs.Marks.{Precedes-kept}
use Rattle.linspec.specs.Twins.{MayEnqueue}
use Rattle.queue_pairs.specs.Pairs.{HasDequeued, MayDequeue, IsLate}
use Rattle.wide_fifo_queue.specs.declared.known.Pending.{Pending}
use Rattle.wide_fifo_queue.specs.declared.known.Enqueued.{Enqueued}
use Rattle.wide_fifo_queue.specs.Facts.{StandsAt, ArePending, IsEntry, IsTakenAt, Waits, call_by, is_other}
use Rattle.wide_fifo_queue.proofs.Moments.{stands_on, stands_cases, stands_last, last_or_before}
use Rattle.linspec.proofs.Filters.{from_filter, to_filter}
use Rattle.queue_pairs.proofs.Once.{returned_invoked}

pub not_same : (a b : ℕ) → not (nat_eq a b) ≡ true → a ≢ b
not_same a b e same = let t : nat_eq a b ≡ true = eq-eqb a b same in true≢false (sym e ∙ ap not t)

pub is_not_same : (a b : ℕ) → a ≢ b → not (nat_eq a b) ≡ true
is_not_same a b ne = ap not (ne_eqb a b ne)

pub same_or_not : (a b : ℕ) → (a ≡ b) ⊎ (a ≢ b)
same_or_not a b = ⊎_elim (λ e. inl (eqb-true a b e)) (λ e. inr (λ same. true≢false (sym (eq-eqb a b same) ∙ e))) (cases_Bool (nat_eq a b))

pub one_more : (ms : List Mark) (m : Mark) (now : ℕ) → now ≡ length ms → now + 1 ≡ length (ms ++ m ∷ [])
one_more ms m now e = let a : length (ms ++ m ∷ []) ≡ length ms + 1 = length-append ms (m ∷ []) in omega arith

pub well_more : (ms : List Mark) (m : Mark) → AreWellFormed ms → MayFollow ms m → AreWellFormed (ms ++ m ∷ [])
well_more ms m well may before after x cut = ⊎_elim
    (λ (e : x ∷ after ≡ []). cc)
    (λ k. ⊎_elim
    (λ j. well before j.0 x j.1)
    (λ j. subst (MayFollow before) (sym j.0) (subst (λ l. MayFollow l m) (sym j.1) may))
    (last_or_before ms m x before after k.0 k.1 k.2))
    (snoc_cut before (x ∷ after) ms m cut)

module _ (ms : List Mark) (m : Mark) (well : AreWellFormed (ms ++ m ∷ [])) where
  abbrev pub longer : List Mark
  longer = ms ++ m ∷ []

  pub may : MayFollow ms m
  may = well ms [] m refl

  pub kept : (x : Mark) → Contains ms x → Contains longer x
  kept x h = Contains-append_left ms (m ∷ []) x h

  pub kept_at : (n : ℕ) (x : Mark) → StandsAt ms n x → StandsAt longer n x
  kept_at n x s = stands_on ms (m ∷ []) n x s

  pub well_before : AreWellFormed ms
  well_before before after x cut = well before (after ++ m ∷ []) x (sym (append_assoc before (x ∷ after) (m ∷ [])) ∙ ap (λ l. l ++ m ∷ []) cut)

  -- an operation that was invoked before is not invoked by the last mark
  pub not_last : (id : ℕ) (op : Op) → IsInvoked ms id → m ≢ Invoked id op
  not_last id op i e = (subst (MayFollow ms) e may) (Invoked id i.0) i.1 refl

  pub invoked_was : (id : ℕ) → IsInvoked ms id → (op : Op) → Contains longer (Invoked id op) → Contains ms (Invoked id op)
  invoked_was id i op h = ⊎_elim (λ k. k) (λ e. absurd (not_last id op i e)) (Contains-push_cases ms m _ h)

  pub may_enqueue_was : (id : ℕ) (v : ℤ) → IsInvoked ms id → MayEnqueue longer id v → MayEnqueue ms id v
  may_enqueue_was id v i a = ((a.0.0, invoked_was id i a.0.0 a.0.1, a.0.2), λ k. a.1 (kept (Failed id) k))

  pub entry_is : (e : Enqueued) → IsEntry ms e → m ≢ Failed e.id → IsEntry longer e
  entry_is e is ne = record {
    op = is.op;
    enqueues = is.enqueues;
    stands = kept_at e.since (Invoked e.id is.op) is.stands;
    not_failed = λ k. ⊎_elim is.not_failed ne (Contains-push_cases ms m (Failed e.id) k);
  }

  pub dequeued_is : (d : ℕ) (v : ℤ) → HasDequeued ms d v → HasDequeued longer d v
  dequeued_is d v h = record { op = h.op; invoked = kept _ h.invoked; dequeues = h.dequeues; answer = kept _ h.answer }

  pub returned_before : (id : ℕ) (answer : Answer) → Contains ms (Returned id answer) → IsInvoked ms id
  returned_before id answer h = returned_invoked ms well_before id answer h

  pub dequeued_was : (d : ℕ) (v : ℤ) → HasDequeued longer d v → HasDequeued ms d v ⊎ (m ≡ Returned d (Number v))
  dequeued_was d v h = ⊎_elim
      (λ k. inl (record { op = h.op; invoked = invoked_was d (returned_before d (Number v) k) h.op h.invoked; dequeues = h.dequeues; answer = k }))
      inr
      (Contains-push_cases ms m (Returned d (Number v)) h.answer)

  pub taken_is : (v : ℤ) (n : ℕ) → IsTakenAt ms v n → IsTakenAt longer v n
  taken_is v n t = (t.0, dequeued_is t.0 v t.1, kept_at n _ t.2)

  pub may_dequeue_is : (id : ℕ) → MayDequeue ms id → ((a : Answer) → m ≢ Returned id a) → m ≢ Failed id → MayDequeue longer id
  may_dequeue_is id h r f = record {
    op = h.op;
    invoked = kept _ h.invoked;
    dequeues = h.dequeues;
    not_returned = λ k. ⊎_elim (λ j. h.not_returned (k.0, j)) (r k.0) (Contains-push_cases ms m (Returned id k.0) k.1);
    not_failed = λ k. ⊎_elim h.not_failed f (Contains-push_cases ms m (Failed id) k);
  }

  pub may_dequeue_was : (id : ℕ) → IsInvoked ms id → MayDequeue longer id → MayDequeue ms id
  may_dequeue_was id i h = record {
    op = h.op;
    invoked = invoked_was id i h.op h.invoked;
    dequeues = h.dequeues;
    not_returned = λ k. h.not_returned (k.0, kept _ k.1);
    not_failed = λ k. h.not_failed (kept _ k);
  }

  pub waits_is : (entered : List Enqueued) (v : ℤ) (n : ℕ) → Waits entered ms v n → Waits entered longer v n
  waits_is entered v n w = record { entry = w.entry; here = w.here; value = w.value; stays = w.stays; answer = w.answer; stands = kept_at n _ w.stands }

  pub waits_was : (entered : List Enqueued) (v : ℤ) (n : ℕ) (w : Waits entered longer v n) → Waits entered ms v n ⊎ ((m ≡ Returned w.entry.id w.answer) × (n ≡ length ms))
  waits_was entered v n w = ⊎_elim
      (λ s. inl (record { entry = w.entry; here = w.here; value = w.value; stays = w.stays; answer = w.answer; stands = s }))
      (λ e. inr (sym e.0, e.1))
      (stands_cases ms m n (Returned w.entry.id w.answer) w.stands)

  pub late_is : (id : ℕ) → ((done : ℕ) (a : Answer) → m ≢ Returned done a) → IsLate ms id → IsLate longer id
  late_is id no_ok late done r = ⊎_elim
      (λ k. Precedes-kept ms m (late done (r.0, k)))
      (λ e. absurd (no_ok done r.0 e))
      (Contains-push_cases ms m (Returned done r.0) r.1)

-- the pending operations after a completion, and after an invocation
module _ (ms : List Mark) (m : Mark) (completes : IsCompletion m) where
  pub pending_without : (pending : List Pending) → ArePending pending ms → ArePending (filter (is_other (id_of m)) pending) (ms ++ m ∷ [])
  pending_without pending are = record {
    is = λ p h. (let k = are.is p ((from_filter (is_other (id_of m)) pending p h).0) in (
      stays_open ms m completes p.id k.0 (not_same p.id (id_of m) (from_filter (is_other (id_of m)) pending p h).1),
      (k.1.0, stands_on ms (m ∷ []) p.since _ k.1.1, k.1.2),
    ));
    all = λ id o. (let w = was_open ms m completes id o in let k = are.all id w.0 in (k.0, to_filter (is_other (id_of m)) pending k.0 k.1 (is_not_same k.0.id (id_of m) (λ e. w.1 (sym k.2 ∙ e))), k.2));
  }

module _ (ms : List Mark) (id : ℕ) (op : Op) (new : IsNew ms id) where
  pub pending_with : (pending : List Pending) (p : Pending) → p.id ≡ id → p.since ≡ length ms → call_by op.name op.part ≡ p.call → ArePending pending ms → ArePending (pending ++ p ∷ []) (ms ++ Invoked id op ∷ [])
  pending_with pending p e f g are = record {
    is = λ q h. ⊎_elim
        (λ k. (let i = are.is q k in (open_with_new ms id op new q.id i.0, (i.1.0, stands_on ms (Invoked id op ∷ []) q.since _ i.1.1, i.1.2))))
        (λ same. subst (λ (x : Pending). IsOpen (ms ++ Invoked id op ∷ []) x.id × ((o : Op) × StandsAt (ms ++ Invoked id op ∷ []) x.since (Invoked x.id o) × (call_by o.name o.part ≡ x.call))) same own)
        (Contains-push_cases pending p q h);
    all = λ i o. ⊎_elim
        (λ (s : i ≡ id). (p, Contains-push pending p, e ∙ sym s))
        (λ (n : i ≢ id). (let k = are.all i (open_without_new ms id op new i n o) in (k.0, Contains-append_left pending (p ∷ []) k.0 k.1, k.2)))
        (same_or_not i id);
  }
    where
      own : IsOpen (ms ++ Invoked id op ∷ []) p.id × ((o : Op) × StandsAt (ms ++ Invoked id op ∷ []) p.since (Invoked p.id o) × (call_by o.name o.part ≡ p.call))
      own = (
        subst (IsOpen (ms ++ Invoked id op ∷ [])) (sym e) (new_is_open ms id op new),
        (op, subst (λ n. StandsAt (ms ++ Invoked id op ∷ []) n (Invoked p.id op)) (sym f) (subst (λ i. StandsAt (ms ++ Invoked id op ∷ []) (length ms) (Invoked i op)) (sym e) (stands_last ms (Invoked id op))), g),
      )
