-- the conditions of the ok of a dequeue
use Rattle.std.proofs.Common.{◌≡◌, ◌≢◌, ◌↔◌, ℕ, ℤ, ◌⊎◌, inl, inr, ⊎_elim, cond, List, [], ◌∷◌, ◌++◌, sym, ap, ◌∙◌, subst}
use Rattle.std.specs.List.{Contains}
use Rattle.std.specs.Ordering.{int_eq}
use Rattle.std.proofs.lemmas.Bool.{cases_Bool, true≢false}
use Rattle.std.proofs.lemmas.Bool.Decides.{Decides-int_eq}
use Rattle.models.specs.declared.operation.Op.{Op}
use Rattle.models.specs.declared.finding.Answer.TheVariants.{Number}
use Rattle.events.specs.Events.{Mark}
use Rattle.events.specs.Events.Mark.{Invoked, Returned}
use Rattle.linspec.specs.MarkRule.{AreWellFormed}
use Rattle.linspec.specs.Operations.{HasReturned, Precedes}
use Rattle.linspec.specs.Twins.{MayEnqueue}
use Rattle.queue_pairs.specs.Pairs.{Dequeues, HasDequeued, MayDequeue, IsBefore, IsUntold, IsOwedTo, AreTakers, IsPaired, IsOwedBeside, MayTake}
use Rattle.queue_pairs.proofs.Oks.{kept, own_ok, was_open, earlier, still, precedes_none, returned_was, enqueue_was, enqueue_is, may_was, may_is, before_was, before_is, told_is, told_was, dequeue_was, dequeue_is, not_this}

-- a function changed at one value
module _ (v : ℤ) (id : ℕ) (f : ℤ → ℕ) where
  abbrev changed : ℤ → ℕ
  changed u = cond (int_eq u v) id (f u)

  at_value : (u : ℤ) → ((u ≡ v) × (changed u ≡ id)) ⊎ ((u ≢ v) × (changed u ≡ f u))
  at_value u = ⊎_elim
      (λ e. inl ((Decides-int_eq u v).0 e, ap (λ b. cond b id (f u)) e))
      (λ e. inr ((λ s. true≢false (sym ((Decides-int_eq u v).1 s) ∙ e)), ap (λ b. cond b id (f u)) e))
      (cases_Bool (int_eq u v))

module _ (ms : List Mark) (id : ℕ) (op : Op) (v : ℤ) (well : AreWellFormed (ms ++ Returned id (Number v) ∷ [])) (invoked : Contains ms (Invoked id op)) (dequeues : Dequeues op) where
  abbrev longer : List Mark
  longer = ms ++ Returned id (Number v) ∷ []

  own : HasDequeued longer id v
  own = record { op = op; invoked = kept ms id (Number v) well _ invoked; dequeues = dequeues; answer = own_ok ms id (Number v) well }

  told_now : (n : ℕ) (w : ℤ) → HasDequeued longer n w → HasDequeued ms n w ⊎ ((id ≡ n) × (v ≡ w))
  told_now n w h = ⊎_elim
      inl
      (λ k. (let e : Number v ≡ Number w = k.1 in let s : v ≡ w = cc in inr (k.0, s)))
      (told_was ms id (Number v) well n w h)

  untold_was : (u : ℤ) → IsUntold longer u → IsUntold ms u
  untold_was u h n k = h n (told_is ms id (Number v) well n u k)

  untold_is : (u : ℤ) → u ≢ v → IsUntold ms u → IsUntold longer u
  untold_is u ne h n k = ⊎_elim (h n) (λ e. ne (sym e.1)) (told_now n u k)

  not_value : (u : ℤ) → IsUntold longer u → u ≢ v
  not_value u h e = h id (subst (HasDequeued longer id) (sym e) own)

  owed_is : (u : ℤ) (d : ℕ) → u ≢ v → IsOwedTo ms u d → IsOwedTo longer u d
  owed_is u d ne o = record {
    untold = untold_is u ne o.untold;
    v = o.v;
    before = before_is ms id (Number v) well u o.v o.before;
    dequeued = told_is ms id (Number v) well d o.v o.dequeued;
  }

  beside_is : (u : ℤ) → IsOwedBeside ms v u → (d : ℕ) × IsOwedTo longer u d
  beside_is u b = ⊎_elim
      (λ k. (id, record { untold = untold_is u b.0 b.1; v = v; before = before_is ms id (Number v) well u v k; dequeued = own }))
      (λ k. (k.0, owed_is u k.0 b.0 k.1))
      b.2

  beside_was : (u : ℤ) (d : ℕ) → IsOwedTo longer u d → IsOwedBeside ms v u
  beside_was u d o = (
    not_value u o.untold,
    untold_was u o.untold,
    ⊎_elim
        (λ k. inr (d, record { untold = untold_was u o.untold; v = o.v; before = before_was ms id (Number v) well u o.v o.before; dequeued = k }))
        (λ e. inl (subst (IsBefore ms u) (sym e.1) (before_was ms id (Number v) well u o.v o.before)))
        (told_now d o.v o.dequeued),
  )

  -- who the value is owed to does not precede its dequeue
  in_turn_own : IsPaired longer → (d : ℕ) → IsOwedTo ms v d → ¬ Precedes ms d id
  in_turn_own paired d o p = paired.in_turn v o.v id d (before_is ms id (Number v) well v o.v o.before) own (told_is ms id (Number v) well d o.v o.dequeued) (still ms id (Number v) well d id p)

  takers_were : (paired : IsPaired longer) → AreTakers ms (changed v id paired.taken.0)
  takers_were paired = record {
    may = λ u d o. ⊎_elim
        (λ k. subst (MayDequeue ms) (sym k.1) own_open)
        (λ k. subst (MayDequeue ms) (sym k.1) (dequeue_was ms id (Number v) well (paired.taken.0 u) (paired.taken.1.may u d (owed_is u d k.0 o))))
        (at_value v id paired.taken.0 u);
    in_time = λ u d o p. ⊎_elim
        (λ k. in_turn_own paired d (subst (λ x. IsOwedTo ms x d) k.0 o) (subst (Precedes ms d) k.1 p))
        (λ k. paired.taken.1.in_time u d (owed_is u d k.0 o) (still ms id (Number v) well d (paired.taken.0 u) (subst (Precedes ms d) k.1 p)))
        (at_value v id paired.taken.0 u);
    apart = λ u w d e o r same. ⊎_elim
        (λ k. ⊎_elim
        (λ j. k.0 ∙ sym j.0)
        (λ j. absurd (not_this ms id (Number v) well (paired.taken.0 w) (paired.taken.1.may w e (owed_is w e j.0 r)) (sym j.1 ∙ sym same ∙ k.1)))
        (at_value v id paired.taken.0 w))
        (λ k. ⊎_elim
        (λ j. absurd (not_this ms id (Number v) well (paired.taken.0 u) (paired.taken.1.may u d (owed_is u d k.0 o)) (sym k.1 ∙ same ∙ j.1)))
        (λ j. paired.taken.1.apart u w d e (owed_is u d k.0 o) (owed_is w e j.0 r) (sym k.1 ∙ same ∙ j.1))
        (at_value v id paired.taken.0 w))
        (at_value v id paired.taken.0 u);
  }
    where
      own_open : MayDequeue ms id
      own_open = record { op = op; invoked = invoked; dequeues = dequeues; not_returned = (was_open ms id (Number v) well).not_returned; not_failed = (was_open ms id (Number v) well).not_failed }

  paired_was : IsPaired longer → IsPaired ms
  paired_was paired = record {
    known = λ n d. ⊎_elim
        (λ a. inl (a.0, enqueue_was ms id (Number v) well n a.0 a.1))
        (λ a. ⊎_elim
        (λ k. inr (a.0, k))
        (λ e. absurd ((was_open ms id (Number v) well).not_returned (subst (HasReturned ms) (sym e.0) d)))
        (told_now n a.0 a.1))
        (paired.known n (d.0, kept ms id (Number v) well _ d.1));
    added = λ d w h. (let a = paired.added d w (told_is ms id (Number v) well d w h) in (a.0, may_was ms id (Number v) well a.0 w a.1, (λ p. a.2 (still ms id (Number v) well d a.0 p))));
    once = λ c d w h k. paired.once c d w (told_is ms id (Number v) well c w h) (told_is ms id (Number v) well d w k);
    in_turn = λ u w c d b h k p. paired.in_turn u w c d (before_is ms id (Number v) well u w b) (told_is ms id (Number v) well c u h) (told_is ms id (Number v) well d w k) (still ms id (Number v) well d c p);
    taken = (changed v id paired.taken.0, takers_were paired);
  }

  may_take : IsPaired longer → MayTake ms id v
  may_take paired = record {
    added = (let a = paired.added id v own in (a.0, may_was ms id (Number v) well a.0 v a.1));
    untold = λ n h.
        (let e : n ≡ id = paired.once n id v (told_is ms id (Number v) well n v h) own in
        (was_open ms id (Number v) well).not_returned (subst (HasReturned ms) e (Number v, h.answer)));
    in_turn = in_turn_own paired;
    taken = (
      paired.taken.0,
      record {
        may = λ u b. (let o = beside_is u b in dequeue_was ms id (Number v) well (paired.taken.0 u) (paired.taken.1.may u o.0 o.1));
        others = λ u b. (let o = beside_is u b in not_this ms id (Number v) well (paired.taken.0 u) (paired.taken.1.may u o.0 o.1));
        in_time = λ u d b o p. paired.taken.1.in_time u d (owed_is u d b.0 o) (still ms id (Number v) well d (paired.taken.0 u) p);
        apart = λ u w a b same. (let o = beside_is u a in let r = beside_is w b in paired.taken.1.apart u w o.0 r.0 o.1 r.1 same);
      },
    );
  }

  paired_is : IsPaired ms → MayTake ms id v → IsPaired longer
  paired_is paired may = record {
    known = λ n d. ⊎_elim
        (λ k. ⊎_elim (λ a. inl (a.0, enqueue_is ms id (Number v) well n a.0 a.1)) (λ a. inr (a.0, told_is ms id (Number v) well n a.0 a.1)) (paired.known n k))
        (λ e. inr (v, subst (λ k. HasDequeued longer k v) e own))
        (returned_was ms id (Number v) well n d);
    added = λ d w h. ⊎_elim
        (λ k. (let a = paired.added d w k in (a.0, may_is ms id (Number v) well a.0 w a.1, (λ p. a.2 (earlier ms id (Number v) well d a.0 p)))))
        (λ e. (may.added.0, may_is ms id (Number v) well may.added.0 w (subst (MayEnqueue ms may.added.0) e.1 may.added.1), (λ p. precedes_none ms id (Number v) well may.added.0 (subst (λ n. Precedes longer n may.added.0) (sym e.0) p))))
        (told_now d w h);
    once = λ c d w h k. ⊎_elim
        (λ i. ⊎_elim
        (λ j. paired.once c d w i j)
        (λ j. absurd (may.untold c (subst (HasDequeued ms c) (sym j.1) i)))
        (told_now d w k))
        (λ i. ⊎_elim
        (λ j. absurd (may.untold d (subst (HasDequeued ms d) (sym i.1) j)))
        (λ j. sym i.0 ∙ j.0)
        (told_now d w k))
        (told_now c w h);
    in_turn = λ u w c d b h k p. ⊎_elim
        (λ j. ⊎_elim
        (λ i. paired.in_turn u w c d (before_was ms id (Number v) well u w b) i j (earlier ms id (Number v) well d c p))
        (λ i. may.in_turn d
        (record { untold = may.untold; v = w; before = subst (λ x. IsBefore ms x w) (sym i.1) (before_was ms id (Number v) well u w b); dequeued = j })
        (subst (Precedes ms d) (sym i.0) (earlier ms id (Number v) well d c p)))
        (told_now c u h))
        (λ j. precedes_none ms id (Number v) well c (subst (λ n. Precedes longer n c) (sym j.0) p))
        (told_now d w k);
    taken = (
      may.taken.0,
      record {
        may = λ u d o. (let b = beside_was u d o in dequeue_is ms id (Number v) well (may.taken.0 u) (may.taken.1.may u b) (may.taken.1.others u b));
        in_time = λ u d o p. (let b = beside_was u d o in ⊎_elim
            (λ j. may.taken.1.in_time u d b
            (record { untold = b.1; v = o.v; before = before_was ms id (Number v) well u o.v o.before; dequeued = j })
            (earlier ms id (Number v) well d (may.taken.0 u) p))
            (λ j. precedes_none ms id (Number v) well (may.taken.0 u) (subst (λ n. Precedes longer n (may.taken.0 u)) (sym j.0) p))
            (told_now d o.v o.dequeued));
        apart = λ u w d e o r same. may.taken.1.apart u w (beside_was u d o) (beside_was w e r) same;
      },
    );
  }

  pub paired_after_ok_of_dequeue : IsPaired longer ↔ (IsPaired ms × MayTake ms id v)
  paired_after_ok_of_dequeue = ((λ paired. (paired_was paired, may_take paired)), (λ h. paired_is h.0 h.1))
