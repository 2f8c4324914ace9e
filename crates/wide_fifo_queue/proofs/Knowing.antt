-- what the facts say of values that are owed
use Rattle.std.proofs.Common.{◌≡◌, ℕ, ◌<◌, ◌≤◌, ℤ, ◌<ℤ◌, ◌⊎◌, inl, inr, ⊎_elim, Option, Some, None, List, [], ◌∷◌, refl, sym, ap, ◌∙◌, subst, arith}
use Rattle.std.specs.List.{Contains}
use Rattle.std.proofs.lemmas.Bool.{cases_lt}
use Rattle.std.proofs.lemmas.Int.{ints}
use Rattle.models.specs.declared.operation.Op.{Op}
use Rattle.models.specs.declared.operation.Part.TheVariants.{Int}
use Rattle.models.specs.declared.finding.Answer.TheVariants.{Number}
use Rattle.events.specs.Events.{Mark}
use Rattle.events.specs.Events.Mark.{Invoked, Returned}
use Rattle.linspec.specs.Operations.{HasReturned, Precedes}
use Rattle.linspec.specs.Orders.{Pairwise}
use Rattle.linspec.proofs.Lists.{Contains-nil, Contains-cons_cases}
use Rattle.linspec.proofs.Marks.{Precedes-returned}
use Rattle.linspec.specs.Twins.{Enqueues, IsEnqueueOf, MayEnqueue}
use Rattle.queue_pairs.specs.Pairs.{HasDequeued, IsBefore, IsUntold, IsOwedTo, IsLate, TwinsAreLate}
use Rattle.wide_fifo_queue.specs.declared.known.Enqueued.{Enqueued}
use Rattle.wide_fifo_queue.specs.declared.known.Owed.{Owed}
use Rattle.wide_fifo_queue.specs.Facts.{StandsAt, IsEntry, IsByValue, Waits, IsPassed, Facts, AreFacts}
use Rattle.wide_fifo_queue.proofs.Moments.{stands_contains, stands_of, precedes_by, not_precedes}
use Rattle.queue_pairs.proofs.Once.{returned_not_failed, not_before_itself}

-- of two elements one is the other, or they are related
pub in_some_order : {X : Type 0} (R : X → X → Type 0) (xs : List X) → Pairwise R xs → (x y : X) → Contains xs x → Contains xs y → (x ≡ y) ⊎ (R x y ⊎ R y x)
in_some_order R [] p x y h k = absurd (Contains-nil x h)
in_some_order R (z ∷ xs) p x y h k = ⊎_elim
    (λ (e : z ≡ x). ⊎_elim
    (λ (f : z ≡ y). inl (sym e ∙ f))
    (λ j. inr (inl (subst (λ w. R w y) e (p.0 y j))))
    (Contains-cons_cases z xs y k))
    (λ i. ⊎_elim
    (λ (f : z ≡ y). inr (inr (subst (λ w. R w x) f (p.0 x i))))
    (λ j. in_some_order R xs p.1 x y i j)
    (Contains-cons_cases z xs y k))
    (Contains-cons_cases z xs x h)

pub none_or_some : (x : Option ℕ) → (x ≡ None) ⊎ ((n : ℕ) × (x ≡ Some n))
none_or_some None = inl refl
none_or_some (Some n) = inr (n, refl)

pub not_below_itself : (a b : ℤ) → a ≡ b → ¬ (a <ℤ b)
not_below_itself a b e l = let k : b <ℤ b = subst (λ x. x <ℤ b) e l in omega (arith, ints)

pub one_entry : (xs : List Enqueued) → IsByValue xs → (d e : Enqueued) → Contains xs d → Contains xs e → d.value ≡ e.value → d ≡ e
one_entry xs by d e h k same = ⊎_elim
    (λ q. q)
    (λ r. ⊎_elim
    (λ l. absurd (not_below_itself d.value e.value same l))
    (λ l. absurd (not_below_itself e.value d.value (sym same) l))
    r)
    (in_some_order (λ (x y : Enqueued). x.value <ℤ y.value) xs by d e h k)

pub same_value : (v w : ℤ) (a b : Op) → a ≡ b → Enqueues a v → Enqueues b w → v ≡ w
same_value v w a b e p q = let r : Int v ≡ Int w = sym p.1 ∙ ap (λ (o : Op). o.part) e ∙ q.1 in cc

module _ (f : Facts) (ms : List Mark) (facts : AreFacts f ms) where
  pub entry_enqueues : (e : Enqueued) → IsEntry ms e → MayEnqueue ms e.id e.value
  entry_enqueues e is = ((is.op, stands_contains ms e.since (Invoked e.id is.op) is.stands, is.enqueues), is.not_failed)

  pub is_entry : (e : Enqueued) → Contains f.entered e → MayEnqueue ms e.id e.value
  is_entry e h = entry_enqueues e (facts.entries.is e h)

  -- an enqueue that is done is not late
  pub done_entry : (a : ℕ) (v : ℤ) → IsEnqueueOf ms a v → HasReturned ms a → (e : Enqueued) × Contains f.entered e × (e.id ≡ a) × (e.value ≡ v)
  done_entry a v is r =
      let k = facts.entries.all a v (is, returned_not_failed ms facts.well a r.0 r.1) in
      ⊎_elim
      (λ h. (k.0, h, k.2, k.3))
      (λ h. absurd (not_before_itself ms facts.well a (subst (Precedes ms a) k.2 ((facts.entries.is_late k.0 h).1 a r))))
      k.1

  -- the entry of a value that was dequeued
  pub dequeued_entry : (d : ℕ) (v : ℤ) → HasDequeued ms d v → (e : Enqueued) × (n : ℕ) × Contains f.entered e × (e.value ≡ v) × (e.taken ≡ Some n) × StandsAt ms n (Returned d (Number v))
  dequeued_entry d v h =
      let a = facts.paired.added d v h in
      let k = facts.entries.all a.0 v a.1 in
      let first : (e : Enqueued) × Contains f.entered e × (e.value ≡ v) = ⊎_elim
      (λ i. (k.0, i, k.3))
      (λ i. (let o = (facts.entries.is_late k.0 i).3 in (o.0, o.1, o.2 ∙ k.3)))
      k.1 in
      let told = facts.entries.told first.0 d first.1 (subst (HasDequeued ms d) (sym first.2) h) in
      let taken = facts.entries.taken first.0 told.0 first.1 told.1 in
      let same : taken.0 ≡ d = facts.paired.once taken.0 d v (subst (HasDequeued ms taken.0) first.2 taken.1) h in
      (first.0, told.0, first.1, first.2, told.1, subst (λ w. StandsAt ms told.0 (Returned d (Number w))) first.2 (subst (λ i. StandsAt ms told.0 (Returned i (Number first.0.value))) same taken.2))

  -- what no dequeue has answered
  pub untold_stays : (e : Enqueued) → Contains f.entered e → IsUntold ms e.value → e.taken ≡ None
  untold_stays e h untold = ⊎_elim
      (λ n. n)
      (λ s. absurd (let t = facts.entries.taken e s.0 h s.1 in untold t.0 t.1))
      (none_or_some e.taken)

  pub stays_untold : (e : Enqueued) → Contains f.entered e → e.taken ≡ None → IsUntold ms e.value
  stays_untold e h none id d = let t = facts.entries.told e id h d in let q : None ≡ Some t.0 = sym none ∙ t.1 in cc

  -- a value that came in before another waits, if it was not dequeued; and its enqueue returned before that of the other was invoked
  pub before_waits : (u v : ℤ) → IsBefore ms u v → IsUntold ms u → (e : Enqueued) → Contains f.entered e → e.value ≡ v → (n : ℕ) × Waits f.entered ms u n × (n < e.since)
  before_waits u v before untold e h same =
      let is = facts.entries.is e h in
      let p : Precedes ms before.0 e.id = before.2 e.id (subst (MayEnqueue ms e.id) same (is_entry e h)) in
      let r = Precedes-returned ms before.0 e.id p in
      let k = done_entry before.0 u before.1 r in
      let s = stands_of ms (Returned before.0 r.0) r.1 in
      let at : StandsAt ms s.0 (Returned k.0.id r.0) = subst (λ i. StandsAt ms s.0 (Returned i r.0)) (sym k.2) s.1 in (
        s.0,
        record {
          entry = k.0;
          here = k.1;
          value = k.3;
          stays = untold_stays k.0 k.1 (subst (IsUntold ms) (sym k.3) untold);
          answer = r.0;
          stands = at;
        },
        ⊎_elim
            (λ (lt : s.0 < e.since). lt)
            (λ (le : e.since ≤ s.0). absurd (not_precedes ms facts.well before.0 e.id s.0 e.since r.0 is.op s.1 is.stands le p))
            (cases_lt s.0 e.since),
      )

  -- the enqueue of a value that waits precedes each of another that was invoked after it
  pub waits_before : (u : ℤ) (n : ℕ) → Waits f.entered ms u n → (e : Enqueued) → Contains f.entered e → n < e.since → IsBefore ms u e.value
  waits_before u n w e h lt =
      let own = facts.entries.is w.entry w.here in
      let is = facts.entries.is e h in
      let done : Contains ms (Returned w.entry.id w.answer) = stands_contains ms n (Returned w.entry.id w.answer) w.stands in (
        w.entry.id,
        subst (IsEnqueueOf ms w.entry.id) w.value (is_entry w.entry w.here).0,
        λ b may.
            let k = facts.entries.all b e.value may in
            ⊎_elim
            (λ i.
            let one : k.0 ≡ e = one_entry f.entered facts.entries.by_value k.0 e i h k.3 in
            let p : Precedes ms w.entry.id e.id = precedes_by ms w.entry.id e.id n e.since w.answer is.op w.stands is.stands lt in
            subst (Precedes ms w.entry.id) (ap (λ (x : Enqueued). x.id) (sym one) ∙ k.2) p)
            (λ i. subst (Precedes ms w.entry.id) k.2 ((facts.entries.is_late k.0 i).1 w.entry.id (w.answer, done)))
            k.1,
      )

  pub waits_untold : (u : ℤ) (n : ℕ) → Waits f.entered ms u n → IsUntold ms u
  waits_untold u n w = subst (IsUntold ms) w.value (stays_untold w.entry w.here w.stays)

  -- an owed value has its place, with a deadline
  pub owed_has : (u : ℤ) (d : ℕ) (o : IsOwedTo ms u d) → (p : Owed) × (t : ℕ) × Contains f.owed p × (p.value ≡ u) × StandsAt ms t (Returned d (Number o.v)) × (p.deadline ≤ t)
  owed_has u d o =
      let e = dequeued_entry d o.v o.dequeued in
      let w = before_waits u o.v o.before o.untold e.0 e.2 e.3 in
      let passed : IsPassed f.entered w.0 e.1 = record { entry = e.0; here = e.2; taken = e.4; after = w.2 } in
      ⊎_elim
      (λ x. absurd (facts.waiting.not_passed x.0 e.1 x.1 (subst (λ n. IsPassed f.entered n e.1) (sym x.3) passed)))
      (λ x. (x.0, e.1, x.1, x.2, e.5, facts.owed.least x.0 e.1 x.1 (subst (λ n. IsPassed f.entered n e.1) (sym x.3) passed)))
      (facts.among u w.0 w.1)

  -- what has a place is owed
  pub owed_is : (p : Owed) → Contains f.owed p → (d : ℕ) × (o : IsOwedTo ms p.value d) × StandsAt ms p.deadline (Returned d (Number o.v))
  owed_is p h =
      let w = facts.owed.is p h in
      let passed = facts.owed.passed p h in
      let t = facts.entries.taken passed.entry p.deadline passed.here passed.taken in (
        t.0,
        record {
          untold = waits_untold p.value p.by w;
          v = passed.entry.value;
          before = waits_before p.value p.by w passed.entry passed.here passed.after;
          dequeued = t.1;
        },
        t.2,
      )

  pub twins_late : TwinsAreLate ms
  twins_late a b v twins =
      let x = facts.entries.all a v twins.first in
      let y = facts.entries.all b v twins.second in
      ⊎_elim
      (λ i. ⊎_elim
      (λ j.
      let one : x.0 ≡ y.0 = one_entry f.entered facts.entries.by_value x.0 y.0 i j (x.3 ∙ sym y.3) in
      absurd (twins.two (sym x.2 ∙ ap (λ (e : Enqueued). e.id) one ∙ y.2)))
      (λ j. inr (subst (IsLate ms) y.2 (facts.entries.is_late y.0 j).1))
      y.1)
      (λ i. inl (subst (IsLate ms) x.2 (facts.entries.is_late x.0 i).1))
      x.1
