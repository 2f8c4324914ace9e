-- the effect of an ok, and that the ok of an enqueue changes nothing
use Rattle.std.proofs.Common.{◌≡◌, ◌≢◌, ◌↔◌, ℕ, ℤ, ◌⊎◌, inl, inr, ⊎_elim, List, [], ◌∷◌, ◌++◌, refl, sym, ap, ◌∙◌, subst}
use Rattle.std.specs.List.{Contains}
use Rattle.std.proofs.lemmas.List.Elements.{Contains-append_left, Contains-push, Contains-push_cases}
use Rattle.models.specs.declared.operation.Op.{Op}
use Rattle.models.specs.declared.finding.Answer.{Answer}
use Rattle.models.specs.declared.finding.Answer.TheVariants.{Number}
use Rattle.events.specs.Events.{Mark}
use Rattle.events.specs.Events.Mark.{Invoked, Returned, Failed}
use Rattle.linspec.specs.MarkRule.{AreWellFormed}
use Rattle.linspec.specs.Operations.{HasReturned, IsOpen, Precedes}
use Rattle.linspec.proofs.Marks.{Precedes-kept, Precedes-cases, Precedes-returned}
use Rattle.linspec.specs.Twins.{Enqueues, IsEnqueueOf, MayEnqueue, HasTwins}
use Rattle.queue_pairs.specs.Pairs.{Dequeues, HasDequeued, MayDequeue, IsBefore, IsOwedTo, IsPaired}
use Rattle.queue_pairs.proofs.Once.{one_op, one_answer}
use Rattle.queue_pairs.proofs.Steps.{no_both}

module _ (ms : List Mark) (id : ℕ) (answer : Answer) (well : AreWellFormed (ms ++ Returned id answer ∷ [])) where
  abbrev pub longer : List Mark
  longer = ms ++ Returned id answer ∷ []

  pub kept : (m : Mark) → Contains ms m → Contains longer m
  kept m h = Contains-append_left ms (Returned id answer ∷ []) m h

  pub own_ok : Contains longer (Returned id answer)
  own_ok = Contains-push ms (Returned id answer)

  pub was_open : IsOpen ms id
  was_open = well ms [] (Returned id answer) refl

  pub earlier : (a b : ℕ) → Precedes longer a b → Precedes ms a b
  earlier a b p = ⊎_elim (λ k. k) (λ k. (let e = k.1 in cc)) (Precedes-cases ms (Returned id answer) p)

  pub still : (a b : ℕ) → Precedes ms a b → Precedes longer a b
  still a b p = Precedes-kept ms (Returned id answer) p

  -- the newest ok precedes none
  pub precedes_none : (b : ℕ) → ¬ Precedes longer id b
  precedes_none b p = was_open.not_returned (Precedes-returned ms id b (earlier id b p))

  pub was_invoked : (n : ℕ) (op : Op) → Contains longer (Invoked n op) → Contains ms (Invoked n op)
  was_invoked n op h = ⊎_elim (λ k. k) (λ e. cc) (Contains-push_cases ms (Returned id answer) _ h)

  pub not_failed : (n : ℕ) → ¬ Contains ms (Failed n) → ¬ Contains longer (Failed n)
  not_failed n nf h = ⊎_elim nf (λ e. cc) (Contains-push_cases ms (Returned id answer) _ h)

  pub returned_was : (n : ℕ) → HasReturned longer n → HasReturned ms n ⊎ (id ≡ n)
  returned_was n d = ⊎_elim
      (λ k. inl (d.0, k))
      (λ (e : Returned id answer ≡ Returned n d.0). (let s : id ≡ n = cc in inr s))
      (Contains-push_cases ms (Returned id answer) _ d.1)

  pub enqueue_was : (n : ℕ) (v : ℤ) → IsEnqueueOf longer n v → IsEnqueueOf ms n v
  enqueue_was n v a = (a.0, was_invoked n a.0 a.1, a.2)

  pub enqueue_is : (n : ℕ) (v : ℤ) → IsEnqueueOf ms n v → IsEnqueueOf longer n v
  enqueue_is n v a = (a.0, kept _ a.1, a.2)

  pub may_was : (n : ℕ) (v : ℤ) → MayEnqueue longer n v → MayEnqueue ms n v
  may_was n v a = (enqueue_was n v a.0, (λ f. a.1 (kept _ f)))

  pub may_is : (n : ℕ) (v : ℤ) → MayEnqueue ms n v → MayEnqueue longer n v
  may_is n v a = (enqueue_is n v a.0, not_failed n a.1)

  pub before_was : (u v : ℤ) → IsBefore longer u v → IsBefore ms u v
  before_was u v b = (b.0, enqueue_was b.0 u b.1, (λ n k. earlier b.0 n (b.2 n (may_is n v k))))

  pub before_is : (u v : ℤ) → IsBefore ms u v → IsBefore longer u v
  before_is u v b = (b.0, enqueue_is b.0 u b.1, (λ n k. still b.0 n (b.2 n (may_was n v k))))

  pub told_is : (n : ℕ) (v : ℤ) → HasDequeued ms n v → HasDequeued longer n v
  told_is n v h = record { op = h.op; invoked = kept _ h.invoked; dequeues = h.dequeues; answer = kept _ h.answer }

  pub told_was : (n : ℕ) (v : ℤ) → HasDequeued longer n v → HasDequeued ms n v ⊎ ((id ≡ n) × (answer ≡ Number v))
  told_was n v h = ⊎_elim
      (λ k. inl (record { op = h.op; invoked = was_invoked n h.op h.invoked; dequeues = h.dequeues; answer = k }))
      (λ (e : Returned id answer ≡ Returned n (Number v)). (let s : id ≡ n = cc in let t : answer ≡ Number v = cc in inr (s, t)))
      (Contains-push_cases ms (Returned id answer) _ h.answer)

  pub dequeue_was : (n : ℕ) → MayDequeue longer n → MayDequeue ms n
  dequeue_was n h = record {
    op = h.op;
    invoked = was_invoked n h.op h.invoked;
    dequeues = h.dequeues;
    not_returned = λ d. h.not_returned (d.0, kept _ d.1);
    not_failed = λ f. h.not_failed (kept _ f);
  }

  pub dequeue_is : (n : ℕ) → MayDequeue ms n → n ≢ id → MayDequeue longer n
  dequeue_is n h ne = record {
    op = h.op;
    invoked = kept _ h.invoked;
    dequeues = h.dequeues;
    not_returned = λ d. ⊎_elim h.not_returned (λ e. ne (sym e)) (returned_was n d);
    not_failed = not_failed n h.not_failed;
  }

  -- who has just returned may dequeue no more
  pub not_this : (n : ℕ) → MayDequeue longer n → n ≢ id
  not_this n h e = h.not_returned (answer, subst (λ k. Contains longer (Returned k answer)) (sym e) own_ok)

  pub twins_were : HasTwins longer → HasTwins ms
  twins_were t = (t.0, t.1, t.2, record { two = t.3.two; first = may_was t.0 t.2 t.3.first; second = may_was t.1 t.2 t.3.second })

  -- the ok of an enqueue
  module _ (w : ℤ) (own : IsEnqueueOf ms id w) where
    no_dequeue : (n : ℕ) (op : Op) → Contains ms (Invoked n op) → Dequeues op → n ≢ id
    no_dequeue n op i is e =
        let same : own.0 ≡ op = one_op longer well id own.0 op (kept _ own.1) (kept _ (subst (λ k. Contains ms (Invoked k op)) e i)) in
        no_both op.name (ap (λ (o : Op). o.name) (sym same) ∙ own.2.0) is.0

    told_before : (n : ℕ) (v : ℤ) → HasDequeued longer n v → HasDequeued ms n v
    told_before n v h = ⊎_elim
        (λ k. k)
        (λ e. absurd (no_dequeue n h.op (was_invoked n h.op h.invoked) h.dequeues (sym e.0)))
        (told_was n v h)

    owed_is : (u : ℤ) (d : ℕ) → IsOwedTo ms u d → IsOwedTo longer u d
    owed_is u d o = record { untold = λ n h. o.untold n (told_before n u h); v = o.v; before = before_is u o.v o.before; dequeued = told_is d o.v o.dequeued }

    owed_was : (u : ℤ) (d : ℕ) → IsOwedTo longer u d → IsOwedTo ms u d
    owed_was u d o = record { untold = λ n h. o.untold n (told_is n u h); v = o.v; before = before_was u o.v o.before; dequeued = told_before d o.v o.dequeued }

    paired_is : IsPaired ms → IsPaired longer
    paired_is paired = record {
      known = λ n d. ⊎_elim
          (λ k. ⊎_elim (λ a. inl (a.0, enqueue_is n a.0 a.1)) (λ a. inr (a.0, told_is n a.0 a.1)) (paired.known n k))
          (λ e. inl (w, subst (λ k. IsEnqueueOf longer k w) e (enqueue_is id w own)))
          (returned_was n d);
      added = λ d v h. (let a = paired.added d v (told_before d v h) in (a.0, may_is a.0 v a.1, (λ p. a.2 (earlier d a.0 p))));
      once = λ c d v h k. paired.once c d v (told_before c v h) (told_before d v k);
      in_turn = λ u v c d b h k p. paired.in_turn u v c d (before_was u v b) (told_before c u h) (told_before d v k) (earlier d c p);
      taken = (
        paired.taken.0,
        record {
          may = λ u d o. (let m = paired.taken.1.may u d (owed_was u d o) in dequeue_is (paired.taken.0 u) m (no_dequeue (paired.taken.0 u) m.op m.invoked m.dequeues));
          in_time = λ u d o p. paired.taken.1.in_time u d (owed_was u d o) (earlier d (paired.taken.0 u) p);
          apart = λ u v d e o r same. paired.taken.1.apart u v d e (owed_was u d o) (owed_was v e r) same;
        },
      );
    }

    paired_was : IsPaired longer → IsPaired ms
    paired_was paired = record {
      known = λ n d. ⊎_elim (λ a. inl (a.0, enqueue_was n a.0 a.1)) (λ a. inr (a.0, told_before n a.0 a.1)) (paired.known n (d.0, kept _ d.1));
      added = λ d v h. (let a = paired.added d v (told_is d v h) in (a.0, may_was a.0 v a.1, (λ p. a.2 (still d a.0 p))));
      once = λ c d v h k. paired.once c d v (told_is c v h) (told_is d v k);
      in_turn = λ u v c d b h k p. paired.in_turn u v c d (before_is u v b) (told_is c u h) (told_is d v k) (still d c p);
      taken = (
        paired.taken.0,
        record {
          may = λ u d o. dequeue_was (paired.taken.0 u) (paired.taken.1.may u d (owed_is u d o));
          in_time = λ u d o p. paired.taken.1.in_time u d (owed_is u d o) (still d (paired.taken.0 u) p);
          apart = λ u v d e o r same. paired.taken.1.apart u v d e (owed_is u d o) (owed_is v e r) same;
        },
      );
    }

    pub paired_after_ok_of_enqueue : IsPaired longer ↔ IsPaired ms
    paired_after_ok_of_enqueue = (paired_was, paired_is)

  pub not_paired_after_other_ok : (op : Op) → Contains ms (Invoked id op) → ((v : ℤ) → ¬ Enqueues op v) → ((v : ℤ) → Dequeues op → answer ≢ Number v) → ¬ IsPaired longer
  not_paired_after_other_ok op i no_enqueue no_dequeue paired = ⊎_elim
      (λ a.
      let same : a.1.0 ≡ op = one_op longer well id a.1.0 op a.1.1 (kept _ i) in
      no_enqueue a.0 (ap (λ (o : Op). o.name) (sym same) ∙ a.1.2.0, ap (λ (o : Op). o.part) (sym same) ∙ a.1.2.1))
      (λ a.
      let same : a.1.op ≡ op = one_op longer well id a.1.op op a.1.invoked (kept _ i) in
      no_dequeue a.0
      (ap (λ (o : Op). o.name) (sym same) ∙ a.1.dequeues.0, ap (λ (o : Op). o.part) (sym same) ∙ a.1.dequeues.1)
      (one_answer longer well id answer (Number a.0) own_ok a.1.answer))
      (paired.known id (answer, own_ok))
