-- histories that show what the laws say: a value that was passed over needs a dequeue without an answer
use Rattle.std.proofs.Common.{◌≡◌, ◌≢◌, ℕ, ℤ, ◌⊎◌, inl, inr, ⊎_elim, List, [], ◌∷◌, ◌++◌, refl, sym, ap, ◌∙◌, subst, arith}
use Rattle.std.specs.List.{Contains}
use Rattle.std.proofs.lemmas.List.{append-nil}
use Rattle.std.proofs.lemmas.List.Elements.{Contains-append_right}
use Rattle.models.specs.declared.operation.Name.TheVariants.{Enqueue, Dequeue}
use Rattle.models.specs.declared.operation.Part.TheVariants.{Nil, Int}
use Rattle.models.specs.declared.operation.Op.{Op}
use Rattle.models.specs.declared.finding.Answer.{Answer}
use Rattle.models.specs.declared.finding.Answer.TheVariants.{Nothing, Number}
use Rattle.models.specs.Objects.{fifo_queue}
use Rattle.events.specs.Events.{Mark}
use Rattle.events.specs.Events.Mark.{Invoked, Returned, Failed, Crashed}
use Rattle.linspec.specs.MarkRule.{id_of, IsNew, MayFollow, AreWellFormed}
use Rattle.linspec.specs.Operations.{IsOpen, Precedes}
use Rattle.linspec.specs.Orders.{IsLinearizable}
use Rattle.linspec.proofs.Lists.{Contains-nil, Contains-head, Contains-cons_cases, snoc_cut}
use Rattle.linspec.specs.Twins.{Enqueues, IsEnqueueOf, MayEnqueue, HasTwins}
use Rattle.queue_pairs.specs.Pairs.{Dequeues, HasDequeued, MayDequeue, IsBefore, IsUntold, IsOwedTo, IsPaired, IsLate, TwinsAreLate, IsOwedBeside, MayTake, MayFail}
use Rattle.queue_pairs.proofs.Steps.{no_both, same_int_part}
use Rattle.queue_pairs.proofs.Build.{linearizable_if_paired}
use Rattle.queue_pairs.proofs.Oks.{before_is, told_was, dequeue_was, not_this, twins_were}
use Rattle.queue_pairs.proofs.OkOfDequeue.{paired_after_ok_of_dequeue}

-- what holds of each element of a list that is written out
abbrev Each : {X : Type 0} → (X → Type 0) → List X → Type 0
Each P [] = Unit {0}
Each P (x ∷ xs) = P x × Each P xs

from_each : {X : Type 0} (P : X → Type 0) (xs : List X) → Each P xs → (x : X) → Contains xs x → P x
from_each P [] each x h = absurd (Contains-nil x h)
from_each P (y ∷ xs) each x h = ⊎_elim (λ e. subst P e each.0) (from_each P xs each.1 x) (Contains-cons_cases y xs x h)

-- a history grows mark by mark
well_none : AreWellFormed []
well_none [] after m cut = absurd (let no : ⊥ = cc in no)
well_none (x ∷ before) after m cut = absurd (let no : ⊥ = cc in no)

at_rest : (ms : List Mark) (m : Mark) → AreWellFormed ms → MayFollow ms m → (before after : List Mark) (n : Mark) (rest : List Mark) → n ∷ after ≡ rest ++ m ∷ [] → before ++ rest ≡ ms → MayFollow before n
at_rest ms m well may before after n [] e f =
    let same : n ≡ m = cc in
    let front : before ≡ ms = sym (append-nil before) ∙ f in
    subst (λ l. MayFollow l n) (sym front) (subst (MayFollow ms) (sym same) may)
at_rest ms m well may before after n (r ∷ rest) e f =
    let same : n ≡ r = cc in
    well before rest n (ap (λ x. before ++ x ∷ rest) same ∙ f)

well_then : (ms : List Mark) (m : Mark) → AreWellFormed ms → MayFollow ms m → AreWellFormed (ms ++ m ∷ [])
well_then ms m well may before after n cut = ⊎_elim
    (λ (e : n ∷ after ≡ []). absurd (let no : ⊥ = cc in no))
    (λ k. at_rest ms m well may before after n k.0 k.1 k.2)
    (snoc_cut before (n ∷ after) ms m cut)

-- no mark says that the operation has ended
abbrev IsNoEnd : ℕ → Mark → Type 0
IsNoEnd id m = ((a : Answer) → m ≢ Returned id a) × (m ≢ Failed id) × (m ≢ Crashed id)

by_invocation : (id n : ℕ) (op : Op) → IsNoEnd id (Invoked n op)
by_invocation id n op = ((λ a e. cc), (λ e. cc), (λ e. cc))

by_other : (id n : ℕ) (a : Answer) → n ≢ id → IsNoEnd id (Returned n a)
by_other id n a ne = ((λ b e. ne (let s : n ≡ id = cc in s)), (λ e. cc), (λ e. cc))

open_by : (ms : List Mark) (id : ℕ) (op : Op) → Contains ms (Invoked id op) → Each (IsNoEnd id) ms → IsOpen ms id
open_by ms id op i each = record {
  invoked = (op, i);
  not_returned = λ d. (from_each (IsNoEnd id) ms each (Returned id d.0) d.1).0 d.0 refl;
  not_failed = λ f. (from_each (IsNoEnd id) ms each (Failed id) f).1 refl;
  not_crashed = λ f. (from_each (IsNoEnd id) ms each (Crashed id) f).2 refl;
}

stands : (front : List Mark) (m : Mark) (after : List Mark) → Contains (front ++ m ∷ after) m
stands front m after = Contains-append_right front (m ∷ after) m (Contains-head m after)

new_by : (ms : List Mark) (id : ℕ) → Each (λ m. id_of m ≢ id) ms → IsNew ms id
new_by ms id each m h = from_each (λ m. id_of m ≢ id) ms each m h

-- two values come in one after the other, and a dequeue begins
module _ (u v : ℤ) (differ : u ≢ v) where
  abbrev enqueue : ℤ → Op
  enqueue w = record { name = Enqueue; key = 0; part = Int w }

  abbrev dequeue : Op
  dequeue = record { name = Dequeue; key = 0; part = Nil }

  abbrev two_in : List Mark
  two_in = Invoked 0 (enqueue u) ∷ Returned 0 Nothing ∷ Invoked 1 (enqueue v) ∷ Returned 1 Nothing ∷ Invoked 2 dequeue ∷ []

  -- and another one
  abbrev two_out : List Mark
  two_out = two_in ++ Invoked 3 dequeue ∷ []

  -- what each mark may be
  abbrev IsKnown : Mark → Type 0
  IsKnown m = ((id : ℕ) (w : ℤ) → m ≢ Returned id (Number w))
      × ((id : ℕ) (op : Op) (w : ℤ) → m ≡ Invoked id op → Enqueues op w → ((id ≡ 0) × (u ≡ w)) ⊎ ((id ≡ 1) × (v ≡ w)))
      × ((id : ℕ) (op : Op) → m ≡ Invoked id op → Dequeues op → (id ≡ 2) ⊎ (id ≡ 3))
      × ((id : ℕ) → m ≢ Failed id)
      × ((id : ℕ) (a : Answer) → m ≡ Returned id a → (id ≡ 0) ⊎ (id ≡ 1))

  known_dequeue : (n : ℕ) → (n ≡ 2) ⊎ (n ≡ 3) → IsKnown (Invoked n dequeue)
  known_dequeue n which = (
    (λ id w e. cc),
    (λ id op w e is. (let s : dequeue ≡ op = cc in absurd (no_both op.name is.0 (ap (λ (o : Op). o.name) (sym s))))),
    (λ id op e is. (let s : n ≡ id = cc in subst (λ k. (k ≡ 2) ⊎ (k ≡ 3)) s which)),
    (λ id e. cc),
    (λ id a e. cc),
  )

  known_enqueue : (n : ℕ) (x : ℤ) → ((n ≡ 0) × (u ≡ x)) ⊎ ((n ≡ 1) × (v ≡ x)) → IsKnown (Invoked n (enqueue x))
  known_enqueue n x which = (
    (λ id w e. cc),
    (λ id op w e is.
        (let s : n ≡ id = cc in
        let t : enqueue x ≡ op = cc in
        let same : x ≡ w = same_int_part x w op.part (ap (λ (o : Op). o.part) (sym t)) is.1 in
        subst (λ k. ((k ≡ 0) × (u ≡ w)) ⊎ ((k ≡ 1) × (v ≡ w))) s (subst (λ z. ((n ≡ 0) × (u ≡ z)) ⊎ ((n ≡ 1) × (v ≡ z))) same which))),
    (λ id op e is. (let t : enqueue x ≡ op = cc in absurd (no_both op.name (ap (λ (o : Op). o.name) (sym t)) is.0))),
    (λ id e. cc),
    (λ id a e. cc),
  )

  known_ok : (n : ℕ) → (n ≡ 0) ⊎ (n ≡ 1) → IsKnown (Returned n Nothing)
  known_ok n which = (
    (λ id w e. cc),
    (λ id op w e is. cc),
    (λ id op e is. cc),
    (λ id e. cc),
    (λ id a e. (let s : n ≡ id = cc in subst (λ k. (k ≡ 0) ⊎ (k ≡ 1)) s which)),
  )

  known_in : Each IsKnown two_in
  known_in = (known_enqueue 0 u (inl (refl, refl)), (known_ok 0 (inl refl), (known_enqueue 1 v (inr (refl, refl)), (known_ok 1 (inr refl), (known_dequeue 2 (inl refl), tt)))))

  known_out : Each IsKnown two_out
  known_out = (known_enqueue 0 u (inl (refl, refl)), (known_ok 0 (inl refl), (known_enqueue 1 v (inr (refl, refl)), (known_ok 1 (inr refl), (known_dequeue 2 (inl refl), (known_dequeue 3 (inr refl), tt))))))

  -- of such a history
  module _ (ms : List Mark) (known : Each IsKnown ms) where
    each : (m : Mark) → Contains ms m → IsKnown m
    each m h = from_each IsKnown ms known m h

    none_told : (id : ℕ) (w : ℤ) → ¬ HasDequeued ms id w
    none_told id w h = (each _ h.answer).0 id w refl

    none_failed : (id : ℕ) → ¬ Contains ms (Failed id)
    none_failed id f = (each _ f).3 id refl

    which : (id : ℕ) (w : ℤ) → IsEnqueueOf ms id w → ((id ≡ 0) × (u ≡ w)) ⊎ ((id ≡ 1) × (v ≡ w))
    which id w e = (each _ e.1).1 id e.0 w refl e.2

    -- the second comes in after the first
    is_before : Precedes ms 0 1 → Contains ms (Invoked 0 (enqueue u)) → IsBefore ms u v
    is_before p h = (
      0,
      (enqueue u, h, (refl, refl)),
      λ b k. ⊎_elim
          (λ e. absurd (differ e.1))
          (λ e. subst (Precedes ms 0) (sym e.0) p)
          (which b v k.0),
    )

    no_twins : ¬ HasTwins ms
    no_twins t = ⊎_elim
        (λ a. ⊎_elim
        (λ b. t.3.two (a.0 ∙ sym b.0))
        (λ b. differ (a.1 ∙ sym b.1))
        (which t.1 t.2 t.3.second.0))
        (λ a. ⊎_elim
        (λ b. differ (b.1 ∙ sym a.1))
        (λ b. t.3.two (a.0 ∙ sym b.0))
        (which t.1 t.2 t.3.second.0))
        (which t.0 t.2 t.3.first.0)

    late : TwinsAreLate ms
    late a b w t = absurd (no_twins (a, b, w, t))

  add_in : (rest : List Mark) → Contains (two_in ++ rest) (Invoked 0 (enqueue u))
  add_in rest = stands [] (Invoked 0 (enqueue u)) (Returned 0 Nothing ∷ Invoked 1 (enqueue v) ∷ Returned 1 Nothing ∷ Invoked 2 dequeue ∷ rest)

  next_in : (rest : List Mark) → Contains (two_in ++ rest) (Invoked 1 (enqueue v))
  next_in rest = stands (Invoked 0 (enqueue u) ∷ Returned 0 Nothing ∷ []) (Invoked 1 (enqueue v)) (Returned 1 Nothing ∷ Invoked 2 dequeue ∷ rest)

  take_in : (rest : List Mark) → Contains (two_in ++ rest) (Invoked 2 dequeue)
  take_in rest = stands (Invoked 0 (enqueue u) ∷ Returned 0 Nothing ∷ Invoked 1 (enqueue v) ∷ Returned 1 Nothing ∷ []) (Invoked 2 dequeue) rest

  precedes_in : (rest : List Mark) → Precedes (two_in ++ rest) 0 1
  precedes_in rest = record {
    before = Invoked 0 (enqueue u) ∷ Returned 0 Nothing ∷ [];
    after = Invoked 1 (enqueue v) ∷ Returned 1 Nothing ∷ Invoked 2 dequeue ∷ rest;
    cut = refl;
    returned = (Nothing, stands (Invoked 0 (enqueue u) ∷ []) (Returned 0 Nothing) []);
    invoked = (enqueue v, stands [] (Invoked 1 (enqueue v)) (Returned 1 Nothing ∷ Invoked 2 dequeue ∷ rest));
  }

  -- the only dequeue may not take the second value: none could have taken the first
  pub passed_over : ¬ MayTake two_in 2 v
  passed_over may =
      let owed : IsOwedBeside two_in v u = (differ, (λ id. none_told two_in known_in id u), inl (is_before two_in known_in (precedes_in []) (add_in []))) in
      let m : MayDequeue two_in (may.taken.0 u) = may.taken.1.may u owed in
      may.taken.1.others u owed (only_two (may.taken.0 u) m.op m.invoked m.dequeues)
    where
      same_op : (n id : ℕ) (o op : Op) → Invoked n o ≡ Invoked id op → o ≡ op
      same_op n id o op e = cc

      only_two : (id : ℕ) (op : Op) → Contains two_in (Invoked id op) → Dequeues op → id ≡ 2
      only_two id op h is = from_each (λ m. m ≡ Invoked id op → id ≡ 2) two_in (
        (λ e. absurd (no_both op.name (ap (λ (o : Op). o.name) (sym (same_op 0 id (enqueue u) op e))) is.0)),
        (
          (λ e. cc),
          (
            (λ e. absurd (no_both op.name (ap (λ (o : Op). o.name) (sym (same_op 1 id (enqueue v) op e))) is.0)),
            ((λ e. cc), ((λ e. (let s : 2 ≡ id = cc in sym s)), tt)),
          ),
        ),
      ) (Invoked id op) h refl

  -- with another one that is open it may: that one takes the first value
  other_out : MayDequeue two_out 3
  other_out = record {
    op = dequeue;
    invoked = stands two_in (Invoked 3 dequeue) [];
    dequeues = (refl, refl);
    not_returned = λ d. ⊎_elim (λ e. omega (arith, e)) (λ e. omega (arith, e)) ((each two_out known_out _ d.1).4 3 d.0 refl);
    not_failed = none_failed two_out known_out 3;
  }

  first_alone : (w : ℤ) → IsOwedBeside two_out v w → w ≡ u
  first_alone w b = ⊎_elim
      (λ k. ⊎_elim (λ e. sym e.1) (λ e. absurd (b.0 (sym e.1))) (which two_out known_out k.0 w k.1))
      (λ k. (let o : IsOwedTo two_out w k.0 = k.1 in absurd (none_told two_out known_out k.0 o.v o.dequeued)))
      b.2

  pub may_pass_over : MayTake two_out 2 v
  may_pass_over = record {
    added = (1, ((enqueue v, next_in (Invoked 3 dequeue ∷ []), (refl, refl)), none_failed two_out known_out 1));
    untold = λ id. none_told two_out known_out id v;
    in_turn = λ d o. absurd (none_told two_out known_out d o.v o.dequeued);
    taken = (
      (λ w. 3),
      record {
        may = λ w b. other_out;
        others = λ w b e. omega (arith, e);
        in_time = λ w d b o. absurd (none_told two_out known_out d o.v o.dequeued);
        apart = λ w x a b e. first_alone w a ∙ sym (first_alone x b);
      },
    );
  }

  paired_out : IsPaired two_out
  paired_out = record {
    known = λ id d. inl (⊎_elim
        (λ e. (u, subst (λ n. IsEnqueueOf two_out n u) (sym e) (enqueue u, add_in (Invoked 3 dequeue ∷ []), (refl, refl))))
        (λ e. (v, subst (λ n. IsEnqueueOf two_out n v) (sym e) (enqueue v, next_in (Invoked 3 dequeue ∷ []), (refl, refl))))
        ((each two_out known_out _ d.1).4 id d.0 refl));
    added = λ d w h. absurd (none_told two_out known_out d w h);
    once = λ c d w h k. absurd (none_told two_out known_out d w k);
    in_turn = λ w x c d b h k. absurd (none_told two_out known_out d x k);
    taken = (
      (λ w. 3),
      record {
        may = λ w d o. absurd (none_told two_out known_out d o.v o.dequeued);
        in_time = λ w d o. absurd (none_told two_out known_out d o.v o.dequeued);
        apart = λ w x d e o r same. absurd (none_told two_out known_out d o.v o.dequeued);
      },
    );
  }

  well_in : AreWellFormed two_in
  well_in =
      let a = well_then [] (Invoked 0 (enqueue u)) well_none (new_by [] 0 tt) in
      let b = well_then (Invoked 0 (enqueue u) ∷ []) (Returned 0 Nothing) a (open_by (Invoked 0 (enqueue u) ∷ []) 0 (enqueue u) (stands [] (Invoked 0 (enqueue u)) []) (by_invocation 0 0 (enqueue u), tt)) in
      let c = well_then (Invoked 0 (enqueue u) ∷ Returned 0 Nothing ∷ []) (Invoked 1 (enqueue v)) b (new_by (Invoked 0 (enqueue u) ∷ Returned 0 Nothing ∷ []) 1 (omega arith, (omega arith, tt))) in
      let d = well_then (Invoked 0 (enqueue u) ∷ Returned 0 Nothing ∷ Invoked 1 (enqueue v) ∷ []) (Returned 1 Nothing) c
      (open_by (Invoked 0 (enqueue u) ∷ Returned 0 Nothing ∷ Invoked 1 (enqueue v) ∷ []) 1 (enqueue v) (stands (Invoked 0 (enqueue u) ∷ Returned 0 Nothing ∷ []) (Invoked 1 (enqueue v)) [])
      (by_invocation 1 0 (enqueue u), (by_other 1 0 Nothing (omega arith), (by_invocation 1 1 (enqueue v), tt)))) in
      well_then (Invoked 0 (enqueue u) ∷ Returned 0 Nothing ∷ Invoked 1 (enqueue v) ∷ Returned 1 Nothing ∷ []) (Invoked 2 dequeue) d
      (new_by (Invoked 0 (enqueue u) ∷ Returned 0 Nothing ∷ Invoked 1 (enqueue v) ∷ Returned 1 Nothing ∷ []) 2 (omega arith, (omega arith, (omega arith, (omega arith, tt)))))

  well_out : AreWellFormed two_out
  well_out = well_then two_in (Invoked 3 dequeue) well_in (new_by two_in 3 (omega arith, (omega arith, (omega arith, (omega arith, (omega arith, tt))))))

  abbrev passed : List Mark
  passed = two_out ++ Returned 2 (Number v) ∷ []

  well_passed : AreWellFormed passed
  well_passed = well_then two_out (Returned 2 (Number v)) well_out (open_by two_out 2 dequeue (take_in (Invoked 3 dequeue ∷ []))
      (by_invocation 2 0 (enqueue u), (by_other 2 0 Nothing (omega arith), (by_invocation 2 1 (enqueue v), (by_other 2 1 Nothing (omega arith), (by_invocation 2 2 dequeue, (by_invocation 2 3 dequeue, tt)))))))

  late_passed : TwinsAreLate passed
  late_passed a b w t = absurd (no_twins two_out known_out (twins_were two_out 2 (Number v) well_passed (a, b, w, t)))

  pub passed_is_paired : IsPaired passed
  passed_is_paired = (paired_after_ok_of_dequeue two_out 2 dequeue v well_passed (take_in (Invoked 3 dequeue ∷ [])) (refl, refl)).1 (paired_out, may_pass_over)

  pub passed_is_linearizable : IsLinearizable fifo_queue passed
  passed_is_linearizable = linearizable_if_paired passed well_passed late_passed passed_is_paired

  -- then the other operation may not fail
  pub may_not_fail : ¬ MayFail passed 3
  may_not_fail may =
      let owed : IsOwedTo passed u 2 = record {
        untold = untold_passed;
        v = v;
        before = before_is two_out 2 (Number v) well_passed u v (is_before two_out known_out (precedes_in (Invoked 3 dequeue ∷ [])) (add_in (Invoked 3 dequeue ∷ [])));
        dequeued = record { op = dequeue; invoked = take_in (Invoked 3 dequeue ∷ Returned 2 (Number v) ∷ []); dequeues = (refl, refl); answer = stands two_out (Returned 2 (Number v)) [] };
      } in
      let m : MayDequeue passed (may.taken.0 u) = may.taken.1.may u 2 owed in
      let w : MayDequeue two_out (may.taken.0 u) = dequeue_was two_out 2 (Number v) well_passed (may.taken.0 u) m in
      ⊎_elim
      (λ e. not_this two_out 2 (Number v) well_passed (may.taken.0 u) m e)
      (λ e. may.taken.2 u 2 owed e)
      ((each two_out known_out _ w.invoked).2 (may.taken.0 u) w.op refl w.dequeues)
    where
      untold_passed : IsUntold passed u
      untold_passed id h = ⊎_elim
          (λ k. none_told two_out known_out id u k)
          (λ k. differ (let e : Number v ≡ Number u = k.1 in let s : v ≡ u = cc in sym s))
          (told_was two_out 2 (Number v) well_passed id u h)

-- twins that are late: a second enqueue of a value, with no ok after it
module _ (v : ℤ) where
  abbrev enqueue_again : Op
  enqueue_again = record { name = Enqueue; key = 0; part = Int v }

  abbrev again : List Mark
  again = Invoked 0 enqueue_again ∷ Returned 0 Nothing ∷ Invoked 1 enqueue_again ∷ []

  none_fails : (id : ℕ) → ¬ Contains again (Failed id)
  none_fails id f = from_each (λ m. m ≢ Failed id) again ((λ e. cc), ((λ e. cc), ((λ e. cc), tt))) (Failed id) f refl

  pub has_twins : HasTwins again
  has_twins = (
    0,
    1,
    v,
    record {
      two = omega arith;
      first = ((enqueue_again, stands [] (Invoked 0 enqueue_again) (Returned 0 Nothing ∷ Invoked 1 enqueue_again ∷ []), (refl, refl)), none_fails 0);
      second = ((enqueue_again, stands (Invoked 0 enqueue_again ∷ Returned 0 Nothing ∷ []) (Invoked 1 enqueue_again) [], (refl, refl)), none_fails 1);
    },
  )

  second_is_late : IsLate again 1
  second_is_late id d = subst (λ n. Precedes again n 1) (zero_alone d.0) (record {
    before = Invoked 0 enqueue_again ∷ Returned 0 Nothing ∷ [];
    after = Invoked 1 enqueue_again ∷ [];
    cut = refl;
    returned = (Nothing, stands (Invoked 0 enqueue_again ∷ []) (Returned 0 Nothing) []);
    invoked = (enqueue_again, stands [] (Invoked 1 enqueue_again) []);
  })
    where
      zero_alone : (a : Answer) → 0 ≡ id
      zero_alone a = from_each (λ m. m ≡ Returned id d.0 → 0 ≡ id) again ((λ e. cc), ((λ e. (let s : 0 ≡ id = cc in s)), ((λ e. cc), tt))) (Returned id d.0) d.1 refl

  pub late_twins : TwinsAreLate again
  late_twins a b w t = ⊎_elim
      (λ e. inl (subst (IsLate again) (sym e) second_is_late))
      (λ e. ⊎_elim
      (λ f. inr (subst (IsLate again) (sym f) second_is_late))
      (λ f. absurd (t.two (e ∙ sym f)))
      (which_of b t.second))
      (which_of a t.first)
    where
      which_of : (n : ℕ) → MayEnqueue again n w → (n ≡ 1) ⊎ (n ≡ 0)
      which_of n k = from_each (λ m. m ≡ Invoked n k.0.0 → (n ≡ 1) ⊎ (n ≡ 0)) again
          ((λ e. (let s : 0 ≡ n = cc in inr (sym s))), ((λ e. cc), ((λ e. (let s : 1 ≡ n = cc in inl (sym s))), tt))) (Invoked n k.0.0) k.0.1 refl
