-- the facts after each event
use Rattle.std.proofs.Common.{◌≡◌, ◌≢◌, ℕ, ◌+◌, ◌<◌, ◌≤◌, ℤ, ⊎_elim, cond, List, [], ◌∷◌, ◌++◌, refl, sym, ap, ◌∙◌, subst, arith}
use Rattle.std.specs.List.{Contains, filter}
use Rattle.std.specs.Ordering.{int_eq}
use Rattle.std.proofs.lemmas.Bool.{cases_Bool, cases_lt, true≢false, false_from_ne_true}
use Rattle.std.proofs.lemmas.Bool.Decides.{Decides-int_eq, same_from_decides}
use Rattle.std.proofs.lemmas.List.{append-nil}
use Rattle.std.proofs.lemmas.List.Elements.{Contains-append_left, Contains-push, Contains-push_cases}
use Rattle.values.specs.Multisets.{with_one}
use Rattle.values.proofs.Bags.{same_int}
use Rattle.models.specs.declared.operation.Op.{Op}
use Rattle.models.specs.declared.finding.Answer.{Answer}
use Rattle.models.specs.declared.finding.Answer.TheVariants.{Number}
use Rattle.models.specs.Runs.{times_in}
use Rattle.events.specs.Events.{Mark}
use Rattle.events.specs.Events.Mark.{Invoked, Returned, Failed, Crashed}
use Rattle.linspec.specs.MarkRule.{id_of, IsNew, AreWellFormed}
use Rattle.linspec.specs.Operations.{IsInvoked}
use Rattle.linspec.proofs.Open.{IsCompletion}
use Rattle.set_chains.proofs.Once.{one_op}
use Rattle.bag_matches.specs.Matches.{Enqueues, IsEnqueueOf}
use Rattle.bag_matches.specs.Counts.{puts, enqueued, dequeued, IsBalanced, MayFail}
use Rattle.bag_matches.proofs.Tests.{IsDequeue, IsPut, puts_is}
use Rattle.bag_matches.proofs.Steps.{times_with, times_without, in_if_counted}
use Rattle.bag_matches.proofs.Events.{cuts, dequeued_all, enqueued_all, enqueued_same, enqueue_takes_none, balanced_after_enqueue, balanced_after_dequeue, balanced_after_fail, balanced_after_invoke, balanced_after_crash, dequeued_after, enqueued_after, dequeued_failed, enqueued_failed, enqueued_with, enqueued_without}
use Rattle.wide_unordered_queue.specs.declared.pending.Call.{Call}
use Rattle.wide_unordered_queue.specs.declared.pending.Call.TheVariants as calls
use Rattle.wide_unordered_queue.specs.declared.pending.Pending.{Pending}
use Rattle.wide_unordered_queue.specs.Facts.{call_by, IsLeast, ArePending, Facts, AreFacts, is_other, lowered, with_enqueue, with_call, without, without_value}
use Rattle.wide_unordered_queue.proofs.Tests.{map_same, enqueue_by, by_enqueue, dequeue_by, lowered_yes, lowered_less, lowered_other, lowered_id, lowered_call}
use Rattle.wide_unordered_queue.proofs.Carrying.{least_stays, pending_after, pending_with}
use Rattle.wide_unordered_queue.proofs.Counting.{at_end, other_stays, lesser_stays, is_lowered, other_value_stays, lesser_kept, greater_lowered}

module _ (f : Facts) (ms : List Mark) (facts : AreFacts f ms) where
  invoked_of : (p : Pending) → Contains f.pending p → IsInvoked ms p.id
  invoked_of p h = (facts.pending.is p h).is_open.invoked

  least_of : (p : Pending) → Contains f.pending p → (v : ℤ) → p.call ≡ calls.Enqueue v → IsLeast ms p.id v p.least
  least_of p h v e = (facts.pending.is p h).least v e

  -- a completion that counts nothing
  module _ (m : Mark) (well : AreWellFormed (ms ++ m ∷ [])) (completes : IsCompletion m) (balanced : IsBalanced (ms ++ m ∷ []))
      (taken : (v : ℤ) → dequeued (ms ++ m ∷ []) v (ms ++ m ∷ []) ≡ dequeued ms v ms)
      (put : (v : ℤ) → enqueued (ms ++ m ∷ []) v (ms ++ m ∷ []) ≡ enqueued ms v ms)
      (fronts : (v : ℤ) (front rest : List Mark) → front ++ rest ≡ ms → enqueued (ms ++ m ∷ []) v front ≡ enqueued ms v front) where
    pub after_nothing : AreFacts (without (id_of m) f) (ms ++ m ∷ [])
    after_nothing = record {
      well = well;
      balanced = balanced;
      pending = subst (λ l. ArePending (filter (is_other (id_of m)) l) (ms ++ m ∷ [])) (map_same f.pending)
          (pending_after ms m well completes (λ p. p) (λ p. refl) (λ p. refl) f.pending facts.pending
          (λ p h ne v e. least_stays ms m well p.id v p.least (λ front rest cut i. fronts v front rest cut)
          (let le = at_end ms p.id v p.least (invoked_of p h) (least_of p h v e) in let a = taken v in let b = put v in omega (arith, le, a, b))
          (least_of p h v e)));
      counted = λ v. (let c : dequeued ms v ms + times_in v f.backlog ≡ enqueued ms v ms = facts.counted v in let a = taken v in let b = put v in omega (arith, c, a, b));
    }

  pub after_ok_of_enqueue : (id : ℕ) (answer : Answer) (w : ℤ) → IsEnqueueOf ms id w → (well : AreWellFormed (ms ++ Returned id answer ∷ [])) → AreFacts (without id f) (ms ++ Returned id answer ∷ [])
  after_ok_of_enqueue id answer w own well = after_nothing (Returned id answer) well tt
      (balanced_after_enqueue ms id answer well w own facts.balanced)
      (λ v. (let a = dequeued_all ms (Returned id answer) well v in let b : cond {A = ℕ} _ 1 0 ≡ 0 = ap (λ t. cond {A = ℕ} t 1 0) (enqueue_takes_none ms id answer well w own v) in omega (arith, a, b)))
      (λ v. (let a = enqueued_all ms (Returned id answer) well (λ n e. cc) v in omega (arith, a)))
      (λ v front rest cut. enqueued_same ms (Returned id answer) well (λ n e. cc) v front)

  pub after_crash : (id : ℕ) (well : AreWellFormed (ms ++ Crashed id ∷ [])) → AreFacts (without id f) (ms ++ Crashed id ∷ [])
  after_crash id well = after_nothing (Crashed id) well tt
      ((balanced_after_crash ms id well).1 facts.balanced)
      (λ v. (let a = dequeued_all ms (Crashed id) well v in omega (arith, a)))
      (λ v. (let a = enqueued_all ms (Crashed id) well (λ n e. cc) v in omega (arith, a)))
      (λ v front rest cut. enqueued_same ms (Crashed id) well (λ n e. cc) v front)

  pub after_other_fail : (id : ℕ) → ((v : ℤ) (front rest : List Mark) → front ++ rest ≡ ms → ¬ IsEnqueueOf front id v) → (well : AreWellFormed (ms ++ Failed id ∷ [])) → AreFacts (without id f) (ms ++ Failed id ∷ [])
  after_other_fail id none well = after_nothing (Failed id) well tt
      ((balanced_after_fail ms id well).1 (facts.balanced, (λ v front rest cut own. absurd (none v front rest cut own))))
      (λ v. dequeued_failed ms id well v)
      (λ v. enqueued_failed ms id well v ∙ enqueued_without ms id well v ms (none v ms [] (append-nil ms)))
      (λ v front rest cut. enqueued_without ms id well v front (none v front rest cut))

  -- the ok of a dequeue
  module _ (p : Pending) (h : Contains f.pending p) (calls_dequeue : p.call ≡ calls.Dequeue) where
    pub dequeues : IsDequeue (facts.pending.is p h).op
    dequeues = (let i = facts.pending.is p h in dequeue_by i.op.name i.op.part (i.call ∙ calls_dequeue))

    module _ (v : ℤ) (well : AreWellFormed (ms ++ Returned p.id (Number v) ∷ [])) (times : ℕ) (is : times ≡ times_in v f.backlog) (some : 0 < times) where
      abbrev ok : Mark
      ok = Returned p.id (Number v)

      invoked : Contains ms (Invoked p.id (facts.pending.is p h).op)
      invoked = (facts.pending.is p h).invoked

      counted_v : dequeued ms v ms + times ≡ enqueued ms v ms
      counted_v = let c = facts.counted v in omega (arith, c, is)

      there : Contains f.backlog v
      there = in_if_counted v f.backlog (omega (arith, is, some))

      new_least : (q : Pending) → Contains f.pending q → (w : ℤ) → q.call ≡ calls.Enqueue w → IsLeast (ms ++ ok ∷ []) q.id w (lowered v times q).least
      new_least q k w e = ⊎_elim
          (λ t.
          let same : v ≡ w = (Decides-int_eq v w).0 t in
          let here : q.call ≡ calls.Enqueue v = e ∙ ap calls.Enqueue (sym same) in
          subst (λ u. IsLeast (ms ++ ok ∷ []) q.id u (lowered v times q).least) same
          (⊎_elim
          (λ (lt : q.least < times). subst (λ (x : Pending). IsLeast (ms ++ ok ∷ []) q.id v x.least) (sym (lowered_less v times q lt))
          (lesser_stays ms p.id v well (facts.pending.is p h).op invoked dequeues times counted_v some q.id (invoked_of q k) q.least lt (least_of q k v here)))
          (λ (le : times ≤ q.least). subst (λ (x : Pending). IsLeast (ms ++ ok ∷ []) q.id v x.least) (sym (lowered_yes v times q here le))
          (is_lowered ms p.id v well (facts.pending.is p h).op invoked dequeues times counted_v some q.id (invoked_of q k) q.least le (least_of q k v here)))
          (cases_lt q.least times)))
          (λ t.
          let other : v ≢ w = λ s. true≢false (sym (same_int v w s) ∙ t) in
          subst (λ (x : Pending). IsLeast (ms ++ ok ∷ []) q.id w x.least) (sym (lowered_other v w times q e (λ s. other (sym s))))
          (other_stays ms p.id v well (facts.pending.is p h).op invoked dequeues times counted_v some q.id (invoked_of q k) w q.least other (least_of q k w e)))
          (cases_Bool (int_eq v w))

      pub after_ok_of_dequeue : AreFacts (without_value p.id v times f) (ms ++ ok ∷ [])
      after_ok_of_dequeue = record {
        well = well;
        balanced = (balanced_after_dequeue ms p.id v well (facts.pending.is p h).op invoked dequeues).1 (facts.balanced, (let c = counted_v in omega (arith, c, some)));
        pending = pending_after ms ok well tt (lowered v times) (lowered_id v times) (lowered_call v times) f.pending facts.pending (λ q k ne w e. new_least q k w e);
        counted = λ w. (
            let c : dequeued ms w ms + times_in w f.backlog ≡ enqueued ms w ms = facts.counted w in
            let a = dequeued_after ms p.id v well (facts.pending.is p h).op invoked dequeues w in
            let b = enqueued_after ms p.id v well (facts.pending.is p h).op invoked dequeues w in
            let t = times_without w v f.backlog there in
            omega (arith, c, a, b, t));
      }

  -- the fail of an enqueue
  module _ (p : Pending) (h : Contains f.pending p) (v : ℤ) (calls_enqueue : p.call ≡ calls.Enqueue v) where
    pub enqueues : IsEnqueueOf ms p.id v
    enqueues = (let i = facts.pending.is p h in (i.op, i.invoked, enqueue_by i.op.name i.op.part v (i.call ∙ calls_enqueue)))

    pub only_value : (w : ℤ) (front rest : List Mark) → front ++ rest ≡ ms → IsEnqueueOf front p.id w → w ≡ v
    only_value w front rest cut e =
        let here : Contains ms (Invoked p.id e.0) = subst (λ l. Contains l (Invoked p.id e.0)) cut (Contains-append_left front rest _ e.1) in
        let i = facts.pending.is p h in
        let same : e.0 ≡ i.op = one_op ms facts.well p.id e.0 i.op here i.invoked in
        let c : calls.Enqueue w ≡ calls.Enqueue v = sym (by_enqueue e.0.name e.0.part w e.2) ∙ ap (λ (o : Op). call_by o.name o.part) same ∙ i.call ∙ calls_enqueue in
        cc

    pub may_fail : 0 < p.least → MayFail ms p.id
    may_fail some w front rest cut own =
        let same : w ≡ v = only_value w front rest cut own in
        let le : dequeued ms v front + p.least ≤ enqueued ms v front = (least_of p h v calls_enqueue).within front rest cut (own.0, own.1) in
        subst (λ u. dequeued ms u front < enqueued ms u front) (sym same) (omega (arith, le, some))

    pub may_not_fail : p.least ≡ 0 → ¬ MayFail ms p.id
    may_not_fail none may =
        let l = least_of p h v calls_enqueue in
        let front : List Mark = l.met.0 in
        let i : IsInvoked front p.id = l.met.3 in
        let here : Contains ms (Invoked p.id i.0) = subst (λ k. Contains k (Invoked p.id i.0)) l.met.2 (Contains-append_left front l.met.1 _ i.1) in
        let same : enqueues.0 ≡ i.0 = one_op ms facts.well p.id enqueues.0 i.0 enqueues.1 here in
        let lt : dequeued ms v front < enqueued ms v front = may v front l.met.1 l.met.2 (i.0, i.1, subst (λ o. Enqueues o v) same enqueues.2) in
        let e : dequeued ms v front + p.least ≡ enqueued ms v front = l.met.4 in
        omega (arith, lt, e, none)

    module _ (well : AreWellFormed (ms ++ Failed p.id ∷ [])) (some : 0 < p.least) where
      abbrev failed : List Mark
      failed = ms ++ Failed p.id ∷ []

      its : IsLeast ms p.id v p.least
      its = least_of p h v calls_enqueue

      in_backlog : Contains f.backlog v
      in_backlog =
          let le = at_end ms p.id v p.least (invoked_of p h) its in
          let c = facts.counted v in
          in_if_counted v f.backlog (omega (arith, le, c, some))

      none_else : (w : ℤ) → v ≢ w → (front rest : List Mark) → front ++ rest ≡ ms → ¬ IsEnqueueOf front p.id w
      none_else w ne front rest cut e = ne (sym (only_value w front rest cut e))

      other_value : (w : ℤ) → v ≢ w → IsEnqueueOf ms p.id w → ⊥
      other_value w ne e = none_else w ne ms [] (append-nil ms) e

      fail_least : (q : Pending) → Contains f.pending q → (w : ℤ) → q.call ≡ calls.Enqueue w → IsLeast failed q.id w (lowered v p.least q).least
      fail_least q k w e = ⊎_elim
          (λ t.
          let same : v ≡ w = (Decides-int_eq v w).0 t in
          let here : q.call ≡ calls.Enqueue v = e ∙ ap calls.Enqueue (sym same) in
          subst (λ u. IsLeast failed q.id u (lowered v p.least q).least) same
          (⊎_elim
          (λ (lt : q.least < p.least). subst (λ (x : Pending). IsLeast failed q.id v x.least) (sym (lowered_less v p.least q lt))
          (lesser_kept ms p.id well v enqueues p.least some its q.id (invoked_of q k) q.least lt (least_of q k v here)))
          (λ (le : p.least ≤ q.least). subst (λ (x : Pending). IsLeast failed q.id v x.least) (sym (lowered_yes v p.least q here le))
          (greater_lowered ms p.id well v enqueues p.least some its q.id (invoked_of q k) q.least le (least_of q k v here)))
          (cases_lt q.least p.least)))
          (λ t.
          let other : v ≢ w = λ s. true≢false (sym (same_int v w s) ∙ t) in
          subst (λ (x : Pending). IsLeast failed q.id w x.least) (sym (lowered_other v w p.least q e (λ s. other (sym s))))
          (other_value_stays ms p.id well v enqueues p.least some its q.id (invoked_of q k) w q.least (none_else w other) (least_of q k w e)))
          (cases_Bool (int_eq v w))

      pub after_fail : AreFacts (without_value p.id v p.least f) failed
      after_fail = record {
        well = well;
        balanced = (balanced_after_fail ms p.id well).1 (facts.balanced, may_fail some);
        pending = pending_after ms (Failed p.id) well tt (lowered v p.least) (lowered_id v p.least) (lowered_call v p.least) f.pending facts.pending (λ q k ne w e. fail_least q k w e);
        counted = λ w. (
            let c : dequeued ms w ms + times_in w f.backlog ≡ enqueued ms w ms = facts.counted w in
            let a = dequeued_failed ms p.id well w in
            let b = enqueued_failed ms p.id well w in
            let t = times_without w v f.backlog in_backlog in
            ⊎_elim
            (λ s.
            let same : v ≡ w = (Decides-int_eq v w).0 s in
            let n : cond {A = ℕ} (int_eq v w) 1 0 ≡ 1 = ap (λ x. cond x 1 0) s in
            let d : enqueued failed w ms + 1 ≡ enqueued ms w ms = enqueued_with ms p.id well w ms [] (append-nil ms) (subst (IsEnqueueOf ms p.id) same enqueues) in
            omega (arith, c, a, b, t, n, d))
            (λ s.
            let other : v ≢ w = λ q. true≢false (sym (same_int v w q) ∙ s) in
            let n : cond {A = ℕ} (int_eq v w) 1 0 ≡ 0 = ap (λ x. cond x 1 0) s in
            let d = enqueued_without ms p.id well w ms (other_value w other) in
            omega (arith, c, a, b, t, n, d))
            (cases_Bool (int_eq v w)));
      }

  -- an invocation
  module _ (id : ℕ) (op : Op) (well : AreWellFormed (ms ++ Invoked id op ∷ [])) where
    abbrev more : List Mark
    more = ms ++ Invoked id op ∷ []

    new : IsNew ms id
    new = well ms [] (Invoked id op) refl

    taken_same : (v : ℤ) → dequeued more v more ≡ dequeued ms v ms
    taken_same v = let a = dequeued_all ms (Invoked id op) well v in omega (arith, a)

    put_more : (v : ℤ) → enqueued more v more ≡ enqueued ms v ms + cond (puts more v (Invoked id op)) 1 0
    put_more v = enqueued_all ms (Invoked id op) well (λ n e. cc) v

    others_stay : (q : Pending) → Contains f.pending q → (v : ℤ) → q.call ≡ calls.Enqueue v → IsLeast more q.id v q.least
    others_stay q k v e = least_stays ms (Invoked id op) well q.id v q.least (λ front rest cut i. enqueued_same ms (Invoked id op) well (λ n s. cc) v front)
        (let le = at_end ms q.id v q.least (invoked_of q k) (least_of q k v e) in let a = taken_same v in let b = put_more v in omega (arith, le, a, b))
        (least_of q k v e)

    balanced_more : IsBalanced more
    balanced_more = (balanced_after_invoke ms id op well).1 facts.balanced

    -- an operation that is invoked now has its least now
    least_now : (v : ℤ) (least : ℕ) → dequeued more v more + least ≡ enqueued more v more → IsLeast more id v least
    least_now v least e = record {
      within = λ front rest cut i. ⊎_elim
          (λ (s : front ≡ more). subst (λ l. dequeued more v l + least ≤ enqueued more v l) (sym s) (omega (arith, e)))
          (λ c. absurd (new (Invoked id i.0) (subst (λ l. Contains l (Invoked id i.0)) c.1 (Contains-append_left front c.0 _ i.1)) refl))
          (cuts ms (Invoked id op) well front rest cut);
      met = (more, [], append-nil more, (op, Contains-push ms (Invoked id op)), e);
    }

    module _ (v : ℤ) (puts_v : call_by op.name op.part ≡ calls.Enqueue v) where
      puts_it : (w : ℤ) → puts more w (Invoked id op) ≡ int_eq v w
      puts_it w = same_from_decides (puts more w (Invoked id op)) (int_eq v w) (
        (λ t.
            let i : IsPut more w (Invoked id op) = (puts_is more w (Invoked id op)).0 t in
            let q : Invoked id op ≡ Invoked i.0 i.1 = i.2 in
            let o : op ≡ i.1 = cc in
            let c : calls.Enqueue v ≡ calls.Enqueue w = sym puts_v ∙ ap (λ (x : Op). call_by x.name x.part) o ∙ by_enqueue i.1.name i.1.part w i.3 in
            let s : v ≡ w = cc in
            s),
        (λ s. (puts_is more w (Invoked id op)).1 (
          id,
          op,
          refl,
          enqueue_by op.name op.part w (puts_v ∙ ap calls.Enqueue s),
          (λ k. ⊎_elim
              (λ j. new (Failed id) j refl)
              (λ (q : Invoked id op ≡ Failed id). cc)
              (Contains-push_cases ms (Invoked id op) _ k)),
        )),
      )
          (Decides-int_eq v w)

      counted_more : (w : ℤ) → dequeued more w more + times_in w (with_one v f.backlog) ≡ enqueued more w more
      counted_more w =
          let c : dequeued ms w ms + times_in w f.backlog ≡ enqueued ms w ms = facts.counted w in
          let a = taken_same w in
          let b = put_more w in
          let t = times_with w v f.backlog in
          let n : cond {A = ℕ} (puts more w (Invoked id op)) 1 0 ≡ cond (int_eq v w) 1 0 = ap (λ x. cond x 1 0) (puts_it w) in
          omega (arith, c, a, b, t, n)

      after_enqueue : AreFacts (with_enqueue id v f) more
      after_enqueue = record {
        well = well;
        balanced = balanced_more;
        pending = pending_with ms id op well f.pending facts.pending (record { id = id; call = calls.Enqueue v; least = times_in v (with_one v f.backlog) }) refl puts_v
            (λ w e. (let q : calls.Enqueue v ≡ calls.Enqueue w = e in let s : v ≡ w = cc in subst (λ u. IsLeast more id u (times_in v (with_one v f.backlog))) s (least_now v (times_in v (with_one v f.backlog)) (counted_more v))))
            others_stay;
        counted = counted_more;
      }

    after_no_enqueue : (call : Call) → call_by op.name op.part ≡ call → ((v : ℤ) → call ≢ calls.Enqueue v)
        → AreFacts (record { pending = f.pending ++ (record { id = id; call = call; least = 0 }) ∷ []; backlog = f.backlog }) more
    after_no_enqueue call is none = record {
      well = well;
      balanced = balanced_more;
      pending = pending_with ms id op well f.pending facts.pending (record { id = id; call = call; least = 0 }) refl is (λ v e. absurd (none v e)) others_stay;
      counted = λ w. (
          let c : dequeued ms w ms + times_in w f.backlog ≡ enqueued ms w ms = facts.counted w in
          let a = taken_same w in
          let b = put_more w in
          let n : cond {A = ℕ} (puts more w (Invoked id op)) 1 0 ≡ 0 = ap (λ x. cond x 1 0) (false_from_ne_true (puts more w (Invoked id op)) (λ t. (
          let i : IsPut more w (Invoked id op) = (puts_is more w (Invoked id op)).0 t in
          let q : Invoked id op ≡ Invoked i.0 i.1 = i.2 in
          let o : op ≡ i.1 = cc in
          none w (sym is ∙ ap (λ (x : Op). call_by x.name x.part) o ∙ by_enqueue i.1.name i.1.part w i.3)))) in
          omega (arith, c, a, b, n));
    }

    pub after_invoke : (call : Call) → call_by op.name op.part ≡ call → AreFacts (with_call id call f) more
    after_invoke (calls.Enqueue v) is = after_enqueue v is
    after_invoke calls.Dequeue is = after_no_enqueue calls.Dequeue is (λ v e. cc)
    after_invoke calls.Other is = after_no_enqueue calls.Other is (λ v e. cc)
