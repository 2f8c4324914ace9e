-- the conditions of an event other than an ok
use Rattle.std.proofs.Common.{◌≡◌, ◌≢◌, ◌↔◌, ℕ, ℤ, ◌⊎◌, inl, inr, ⊎_elim, List, [], ◌∷◌, ◌++◌, refl, sym, ap, ◌∙◌, subst, append_assoc}
use Rattle.std.specs.List.{Contains}
use Rattle.std.proofs.lemmas.Bool.{cases_eq}
use Rattle.std.proofs.lemmas.List.Elements.{Contains-append_left, Contains-push, Contains-push_cases}
use Rattle.models.specs.declared.operation.Op.{Op}
use Rattle.models.specs.declared.finding.Answer.{Answer}
use Rattle.models.specs.declared.finding.Answer.TheVariants.{Number}
use Rattle.events.specs.Events.{Mark}
use Rattle.events.specs.Events.Mark.{Invoked, Returned, Failed}
use Rattle.linspec.specs.MarkRule.{AreWellFormed}
use Rattle.linspec.specs.Operations.{IsInvoked, HasReturned, Precedes}
use Rattle.linspec.proofs.Lists.{Contains-head}
use Rattle.linspec.proofs.Marks.{Precedes-kept, Precedes-cases, Precedes-returned}
use Rattle.linspec.specs.Twins.{IsEnqueueOf, MayEnqueue}
use Rattle.queue_pairs.specs.Pairs.{HasDequeued, MayDequeue, IsBefore, IsOwedTo, AreTakers, IsPaired, IsLate, TwinsAreLate, MayFail}
use Rattle.queue_pairs.proofs.Once.{one_op, returned_invoked}

module _ (ms : List Mark) (m : Mark) (well : AreWellFormed (ms ++ m ∷ [])) (no_ok : (n : ℕ) (a : Answer) → m ≢ Returned n a) where
  abbrev longer : List Mark
  longer = ms ++ m ∷ []

  kept : (n : Mark) → Contains ms n → Contains longer n
  kept n h = Contains-append_left ms (m ∷ []) n h

  front_well : AreWellFormed ms
  front_well before after n cut = well before (after ++ m ∷ []) n (sym (append_assoc before (n ∷ after) (m ∷ [])) ∙ ap (λ l. l ++ m ∷ []) cut)

  returned_was : (n : ℕ) → HasReturned longer n → HasReturned ms n
  returned_was n d = (d.0, ⊎_elim (λ k. k) (λ e. absurd (no_ok n d.0 e)) (Contains-push_cases ms m _ d.1))

  returned_is : (n : ℕ) → HasReturned ms n → HasReturned longer n
  returned_is n d = (d.0, kept _ d.1)

  -- who has returned was invoked before
  op_was : (n : ℕ) (o : Op) → HasReturned ms n → Contains longer (Invoked n o) → Contains ms (Invoked n o)
  op_was n o d h =
      let i : IsInvoked ms n = returned_invoked ms front_well n d.0 d.1 in
      subst (λ p. Contains ms (Invoked n p)) (one_op longer well n i.0 o (kept _ i.1) h) i.1

  -- and who was invoked before is not invoked now
  not_now : (n : ℕ) (o p : Op) → Contains ms (Invoked n o) → m ≢ Invoked n p
  not_now n o p h e = fresh (subst (λ k. AreWellFormed (ms ++ k ∷ [])) e well)
    where
      fresh : AreWellFormed (ms ++ Invoked n p ∷ []) → ⊥
      fresh w = w ms [] (Invoked n p) refl (Invoked n o) h refl

  earlier : (a b : ℕ) → IsInvoked ms b → Precedes longer a b → Precedes ms a b
  earlier a b i p = ⊎_elim (λ k. k) (λ k. absurd (not_now b i.0 k.0 i.1 k.1)) (Precedes-cases ms m p)

  still : (a b : ℕ) → Precedes ms a b → Precedes longer a b
  still a b p = Precedes-kept ms m p

  -- who is invoked now comes after all that has returned
  last_of_all : (a b : ℕ) (op : Op) → HasReturned ms a → m ≡ Invoked b op → Precedes longer a b
  last_of_all a b op d e = record { before = ms; after = m ∷ []; cut = refl; returned = d; invoked = (op, subst (Contains (m ∷ [])) e (Contains-head m [])) }

  enqueue_is : (n : ℕ) (v : ℤ) → IsEnqueueOf ms n v → IsEnqueueOf longer n v
  enqueue_is n v a = (a.0, kept _ a.1, a.2)

  -- an enqueue was invoked before, or comes after all
  may_was : (n : ℕ) (v : ℤ) → MayEnqueue longer n v → MayEnqueue ms n v ⊎ ((op : Op) × (m ≡ Invoked n op))
  may_was n v a = ⊎_elim
      (λ k. inl ((a.0.0, k, a.0.2), (λ f. a.1 (kept _ f))))
      (λ e. inr (a.0.0, e))
      (Contains-push_cases ms m _ a.0.1)

  told_is : (n : ℕ) (v : ℤ) → HasDequeued ms n v → HasDequeued longer n v
  told_is n v h = record { op = h.op; invoked = kept _ h.invoked; dequeues = h.dequeues; answer = kept _ h.answer }

  told_was : (n : ℕ) (v : ℤ) → HasDequeued longer n v → HasDequeued ms n v
  told_was n v h = let d : HasReturned ms n = returned_was n (Number v, h.answer) in
      record { op = h.op; invoked = op_was n h.op d h.invoked; dequeues = h.dequeues; answer = ⊎_elim (λ k. k) (λ e. absurd (no_ok n (Number v) e)) (Contains-push_cases ms m _ h.answer) }

  told_returned : (n : ℕ) (v : ℤ) → HasDequeued ms n v → HasReturned ms n
  told_returned n v h = (Number v, h.answer)

  dequeue_was : (n : ℕ) → MayDequeue longer n → MayDequeue ms n ⊎ ((op : Op) × (m ≡ Invoked n op))
  dequeue_was n h = ⊎_elim
      (λ k. inl (record { op = h.op; invoked = k; dequeues = h.dequeues; not_returned = λ d. h.not_returned (returned_is n d); not_failed = λ f. h.not_failed (kept _ f) }))
      (λ e. inr (h.op, e))
      (Contains-push_cases ms m _ h.invoked)

  dequeue_is : (n : ℕ) → m ≢ Failed n → MayDequeue ms n → MayDequeue longer n
  dequeue_is n nf h = record {
    op = h.op;
    invoked = kept _ h.invoked;
    dequeues = h.dequeues;
    not_returned = λ d. h.not_returned (returned_was n d);
    not_failed = λ f. ⊎_elim h.not_failed nf (Contains-push_cases ms m _ f);
  }

  may_is : (n : ℕ) (v : ℤ) → m ≢ Failed n → MayEnqueue ms n v → MayEnqueue longer n v
  may_is n v nf a = (enqueue_is n v a.0, (λ f. ⊎_elim a.1 nf (Contains-push_cases ms m _ f)))

  -- a dequeued value has its enqueue before
  added_was : IsPaired longer → (d : ℕ) (v : ℤ) → HasDequeued ms d v → (a : ℕ) × MayEnqueue longer a v × MayEnqueue ms a v × (¬ Precedes ms d a)
  added_was paired d v h =
      let a = paired.added d v (told_is d v h) in
      (a.0, a.1, ⊎_elim (λ k. k) (λ k. absurd (a.2 (last_of_all d a.0 k.0 (told_returned d v h) k.1))) (may_was a.0 v a.1), (λ p. a.2 (still d a.0 p)))

  -- a value that came in before a dequeued one still does
  before_is : IsPaired longer → (u v : ℤ) (d : ℕ) → HasDequeued ms d v → IsBefore ms u v → IsBefore longer u v
  before_is paired u v d h b =
      let a = added_was paired d v h in
      let r : HasReturned ms b.0 = Precedes-returned ms b.0 a.0 (b.2 a.0 a.2) in
      (b.0, enqueue_is b.0 u b.1, (λ n k. ⊎_elim (λ j. still b.0 n (b.2 n j)) (λ j. last_of_all b.0 n j.0 r j.1) (may_was n v k)))

  owed_is : IsPaired longer → (u : ℤ) (d : ℕ) → IsOwedTo ms u d → IsOwedTo longer u d
  owed_is paired u d o = record { untold = λ n h. o.untold n (told_was n u h); v = o.v; before = before_is paired u o.v d o.dequeued o.before; dequeued = told_is d o.v o.dequeued }

  takers_were : (paired : IsPaired longer) → AreTakers ms paired.taken.0
  takers_were paired = record {
    may = λ u d o. ⊎_elim
        (λ k. k)
        (λ k. absurd (paired.taken.1.in_time u d (owed_is paired u d o) (last_of_all d (paired.taken.0 u) k.0 (told_returned d o.v o.dequeued) k.1)))
        (dequeue_was (paired.taken.0 u) (paired.taken.1.may u d (owed_is paired u d o)));
    in_time = λ u d o p. paired.taken.1.in_time u d (owed_is paired u d o) (still d (paired.taken.0 u) p);
    apart = λ u w d e o r same. paired.taken.1.apart u w d e (owed_is paired u d o) (owed_is paired w e r) same;
  }

  pub paired_was : IsPaired longer → IsPaired ms
  paired_was paired = record {
    known = λ n d. ⊎_elim
        (λ a. inl (a.0, (a.1.0, op_was n a.1.0 d a.1.1, a.1.2)))
        (λ a. inr (a.0, told_was n a.0 a.1))
        (paired.known n (returned_is n d));
    added = λ d v h. (let a = added_was paired d v h in (a.0, a.2, a.3));
    once = λ c d v h k. paired.once c d v (told_is c v h) (told_is d v k);
    in_turn = λ u v c d b h k p. paired.in_turn u v c d (before_is paired u v d k b) (told_is c u h) (told_is d v k) (still d c p);
    taken = (paired.taken.0, takers_were paired);
  }

  -- and on: where what was dequeued keeps an enqueue, and nothing comes in before it that did not, and each taker stays
  abbrev AddsStay : Type 0
  AddsStay = (d : ℕ) (v : ℤ) → HasDequeued ms d v → (a : ℕ) × MayEnqueue ms a v × (m ≢ Failed a) × (¬ Precedes ms d a)

  abbrev NoneComes : Type 0
  NoneComes = (u v : ℤ) (d : ℕ) → HasDequeued ms d v → IsBefore longer u v → IsBefore ms u v

  abbrev TakersStay : (ℤ → ℕ) → Type 0
  TakersStay taker = (u : ℤ) (d : ℕ) → IsOwedTo ms u d → m ≢ Failed (taker u)

  module _ (stay : AddsStay) (none : NoneComes) where
    owed_was : (u : ℤ) (d : ℕ) → IsOwedTo longer u d → IsOwedTo ms u d
    owed_was u d o =
        let h : HasDequeued ms d o.v = told_was d o.v o.dequeued in
        record { untold = λ n k. o.untold n (told_is n u k); v = o.v; before = none u o.v d h o.before; dequeued = h }

    pub paired_is : IsPaired ms → (taker : ℤ → ℕ) → AreTakers ms taker → TakersStay taker → IsPaired longer
    paired_is paired taker takers takers_stay = record {
      known = λ n d. ⊎_elim (λ a. inl (a.0, enqueue_is n a.0 a.1)) (λ a. inr (a.0, told_is n a.0 a.1)) (paired.known n (returned_was n d));
      added = λ d v h. (let a = stay d v (told_was d v h) in (a.0, may_is a.0 v a.2 a.1, (λ p. a.3 (earlier d a.0 (a.1.0.0, a.1.0.1) p))));
      once = λ c d v h k. paired.once c d v (told_was c v h) (told_was d v k);
      in_turn = λ u v c d b h k p.
          (let s : HasDequeued ms c u = told_was c u h in
          let t : HasDequeued ms d v = told_was d v k in
          paired.in_turn u v c d (none u v d t b) s t (earlier d c (s.op, s.invoked) p));
      taken = (
        taker,
        record {
          may = λ u d o. (let w = owed_was u d o in dequeue_is (taker u) (takers_stay u d w) (takers.may u d w));
          in_time = λ u d o p. (let w = owed_was u d o in let t = takers.may u d w in takers.in_time u d w (earlier d (taker u) (t.op, t.invoked) p));
          apart = λ u w d e o r same. takers.apart u w d e (owed_was u d o) (owed_was w e r) same;
        },
      );
    }

  -- where an enqueue of the value stays, nothing comes in before it that did not
  before_was : (u v : ℤ) (a : ℕ) → MayEnqueue ms a v → m ≢ Failed a → (b : IsBefore longer u v) → Precedes ms b.0 a × IsEnqueueOf ms b.0 u
  before_was u v a h nf b =
      let p : Precedes ms b.0 a = earlier b.0 a (h.0.0, h.0.1) (b.2 a (may_is a v nf h)) in
      (p, (b.1.0, op_was b.0 b.1.0 (Precedes-returned ms b.0 a p) b.1.1, b.1.2))

  pub quiet : ((n : ℕ) → m ≢ Failed n) → IsPaired longer ↔ IsPaired ms
  quiet no_fail = (
    paired_was,
    λ paired. paired_is
        (λ d v h. (let a = paired.added d v h in (a.0, a.1, no_fail a.0, a.2)))
        (λ u v d h b. (let a = paired.added d v h in let w = before_was u v a.0 a.1 (no_fail a.0) b in (b.0, w.1, (λ n k. earlier b.0 n (k.0.0, k.0.1) (b.2 n (may_is n v (no_fail n) k))))))
        paired paired.taken.0 paired.taken.1 (λ u d o. no_fail (paired.taken.0 u)),
  )

  -- twins that are late stay late
  pub late_stays : TwinsAreLate ms → TwinsAreLate longer
  late_stays late a b v t = ⊎_elim
      (λ h. ⊎_elim
      (λ k. ⊎_elim (λ l. inl (on a l)) (λ l. inr (on b l)) (late a b v (record { two = t.two; first = h; second = k })))
      (λ k. inr (λ done d. last_of_all done b k.0 (returned_was done d) k.1))
      (may_was b v t.second))
      (λ h. inl (λ done d. last_of_all done a h.0 (returned_was done d) h.1))
      (may_was a v t.first)
    where
      on : (n : ℕ) → IsLate ms n → IsLate longer n
      on n l done d = still done n (l done (returned_was done d))

module _ (ms : List Mark) (id : ℕ) (well : AreWellFormed (ms ++ Failed id ∷ [])) where
  no_return : (n : ℕ) (a : Answer) → Failed id ≢ Returned n a
  no_return n a e = cc

  own_fail : (n : ℕ) → n ≡ id → Contains (ms ++ Failed id ∷ []) (Failed n)
  own_fail n e = subst (λ k. Contains (ms ++ Failed id ∷ []) (Failed k)) (sym e) (Contains-push ms (Failed id))

  other : (n : ℕ) → n ≢ id → Failed id ≢ Failed n
  other n ne e = ne (let s : n ≡ id = cc in s)

  may_fail : IsPaired (ms ++ Failed id ∷ []) → MayFail ms id
  may_fail paired = record {
    added = λ d v h e. (let a = added_was ms (Failed id) well no_return paired d v h in (a.0, a.2, a.3, (λ s. a.1.1 (own_fail a.0 s))));
    taken = (
      paired.taken.0,
      takers_were ms (Failed id) well no_return paired,
      (λ u d o s. (paired.taken.1.may u d (owed_is ms (Failed id) well no_return paired u d o)).not_failed (own_fail (paired.taken.0 u) s)),
    );
  }

  module _ (late : TwinsAreLate ms) (paired : IsPaired ms) (may : MayFail ms id) where
    stay : AddsStay ms (Failed id) well no_return
    stay d v h =
        let a = paired.added d v h in
        ⊎_elim
        (λ e. (let b = may.added d v h (subst (λ n. IsEnqueueOf ms n v) e a.1.0) in (b.0, b.1, other b.0 b.3, b.2)))
        (λ ne. (a.0, a.1, other a.0 ne, a.2))
        (cases_eq a.0 id)

    none : NoneComes ms (Failed id) well no_return
    none u v d h b =
        let a = stay d v h in
        let w = before_was ms (Failed id) well no_return u v a.0 a.1 a.2 b in
        let not_late : ¬ IsLate ms a.0 = λ l. a.3 (l d (Number v, h.answer)) in (
          b.0,
          w.1,
          (λ n k. ⊎_elim
              (λ e. ⊎_elim
              (λ s. subst (Precedes ms b.0) s w.0)
              (λ ne. ⊎_elim
              (λ l. absurd (not_late l))
              (λ l. l b.0 (Precedes-returned ms b.0 a.0 w.0))
              (late a.0 n v (record { two = ne; first = a.1; second = k })))
              (cases_eq a.0 n))
              (λ ne. earlier ms (Failed id) well no_return b.0 n (k.0.0, k.0.1) (b.2 n (may_is ms (Failed id) well no_return n v (other n ne) k)))
              (cases_eq n id)),
        )

  pub paired_after_fail : TwinsAreLate ms → IsPaired (ms ++ Failed id ∷ []) ↔ (IsPaired ms × MayFail ms id)
  paired_after_fail late = (
    (λ paired. (paired_was ms (Failed id) well no_return paired, may_fail paired)),
    (λ h. paired_is ms (Failed id) well no_return (stay late h.0 h.1) (none late h.0 h.1) h.0 h.1.taken.0 h.1.taken.1 (λ u d o. other (h.1.taken.0 u) (h.1.taken.2 u d o))),
  )
