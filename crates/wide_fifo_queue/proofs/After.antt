-- what each event makes of the facts, of whatever history they are
use Rattle.std.proofs.Common.{◌≡◌, ◌≢◌, ◌↔◌, ℕ, ◌<◌, ◌≤◌, ℤ, ◌⊎◌, ⊎_elim, Option, Some, None, List, [], ◌∷◌, ◌++◌, length, take, drop, get_or, map, refl, sym, ◌∙◌, subst}
use Rattle.std.specs.List.{Contains, filter}
use Rattle.std.proofs.lemmas.List.{take-append-drop}
use Rattle.models.specs.declared.operation.Op.{Op}
use Rattle.models.specs.declared.finding.Answer.{Answer}
use Rattle.models.specs.declared.finding.Answer.TheVariants.{Number}
use Rattle.events.specs.Events.{Mark}
use Rattle.events.specs.Events.Mark.{Invoked, Returned, Failed, Crashed}
use Rattle.linspec.specs.Operations.{IsOpen}
use Rattle.linspec.specs.MarkRule.{MayFollow}
use Rattle.linspec.specs.Orders.{Pairwise}
use Rattle.linspec.proofs.Lists.{Contains-nil}
use Rattle.queue_pairs.specs.Pairs.{MayTake}
use Rattle.wide_fifo_queue.specs.declared.known.Call.TheVariants as calls
use Rattle.wide_fifo_queue.specs.declared.known.Pending.{Pending}
use Rattle.wide_fifo_queue.specs.declared.known.Enqueued.{Enqueued}
use Rattle.wide_fifo_queue.specs.declared.known.Waiting.{Waiting}
use Rattle.wide_fifo_queue.specs.declared.known.Owed.{Owed}
use Rattle.wide_fifo_queue.specs.declared.known.Known.{Known}
use Rattle.wide_fifo_queue.specs.Facts.{IsByValue, IsServed, Facts, AreFacts, call_by, later, is_other, is_other_moment, is_other_value, is_other_enqueue, owed_by}
use Rattle.wide_fifo_queue.specs.Queries.{IsDueOf, IsInTime, IsWaitingBut}
use Rattle.wide_fifo_queue.specs.Kept.{IsDead, IsAfter}
use Rattle.wide_fifo_queue.proofs.Laws.{ok_of_dequeue, other_oks}
use Rattle.wide_fifo_queue.proofs.Calls.{enqueue_by, dequeue_by, by_enqueues, by_dequeues, op_of, same_call, enqueue_of_call, call_of_enqueue, dequeue_of_call}
use Rattle.wide_fifo_queue.proofs.Carrying.{well_more}
use Rattle.wide_fifo_queue.proofs.Judging.{dead_after_ok, dead_after_fail}
use Rattle.wide_fifo_queue.proofs.Splitting.{IsBut, but_of, no_earlier}
use Rattle.wide_fifo_queue.proofs.Dequeuing as deq
use Rattle.wide_fifo_queue.proofs.Events as events
use Rattle.wide_fifo_queue.proofs.Failing as fails
use Rattle.wide_fifo_queue.proofs.Oks as oks

-- the facts of each history are these after the mark
abbrev pub Becomes : Facts → Mark → Facts → Type 0
Becomes f m g = (ms : List Mark) → AreFacts f ms → MayFollow ms m → AreFacts g (ms ++ m ∷ [])

-- no history with these facts is linearizable after the mark
abbrev pub Kills : Facts → Mark → Type 0
Kills f m = (ms : List Mark) → AreFacts f ms → MayFollow ms m → IsDead (ms ++ m ∷ [])

-- an enqueue, as it is entered
abbrev pub entry_by : Pending → ℤ → Enqueued
entry_by p v = record { value = v; id = p.id; since = p.since; taken = None }

module _ (f : Facts) where
  -- invocations
  module _ (p : Pending) (since : p.since ≡ f.now) (op : Op) (call : call_by op.name op.part ≡ p.call) where
    pub other_invoked : p.call ≡ calls.Other → Becomes f (Invoked p.id op) (later (f.pending ++ p ∷ []) f)
    other_invoked is ms facts may = events.after_other f ms facts p.id op (well_more ms _ facts.well may) p refl since call is

    pub dequeue_invoked : p.call ≡ calls.Dequeue → Becomes f (Invoked p.id op) (record (later (f.pending ++ p ∷ []) f) { takers = f.takers ++ p.since ∷ [] })
    dequeue_invoked is ms facts may = events.after_dequeue f ms facts p.id op (well_more ms _ facts.well may) p refl since call (dequeue_by op.name op.part (call ∙ is))

    module _ (v : ℤ) (is : p.call ≡ calls.Enqueue v) where
      pub twin_invoked : (o : Enqueued) → Contains f.entered o → o.value ≡ v → Becomes f (Invoked p.id op) (record (later (f.pending ++ p ∷ []) f) { late = f.late ++ entry_by p v ∷ [] })
      twin_invoked o h same ms facts may =
          events.after_twin f ms facts p.id op (well_more ms _ facts.well may) p refl since call (entry_by p v) refl since refl (enqueue_by op.name op.part v (call ∙ is)) o h same

      pub first_invoked : (entered : List Enqueued) → (IsByValue f.entered → IsByValue entered) → (IsByValue f.entered → (x : Enqueued) → Contains f.entered x → x.value ≢ v)
          → (IsByValue f.entered → (x : Enqueued) → Contains entered x ↔ ((x ≡ entry_by p v) ⊎ (Contains f.entered x × (x.value ≢ v))))
          → Becomes f (Invoked p.id op) (record (later (f.pending ++ p ∷ []) f) { entered = entered })
      first_invoked entered by none has ms facts may =
          let b = facts.entries.by_value in
          events.after_first f ms facts p.id op (well_more ms _ facts.well may) p refl since call (entry_by p v) refl since refl (enqueue_by op.name op.part v (call ∙ is)) entered (by b) (none b) (has b)

  pub crashed : (id : ℕ) → Becomes f (Crashed id) (later (filter (is_other id) f.pending) f)
  crashed id ms facts may = events.after_crash f ms facts id (well_more ms _ facts.well may)

  -- what is not pending is not open
  pub not_pending : (id : ℕ) (m : Mark) (next : Option Known) → ((ms : List Mark) → MayFollow ms m → IsOpen ms id) → ((p : Pending) → Contains f.pending p → p.id ≢ id) → IsAfter f m next
  not_pending id m next opens none ms facts may = let p = facts.pending.all id (opens ms may) in absurd (none p.0 p.1 p.2)

  module _ (p : Pending) (h : Contains f.pending p) where
    -- the ok of an enqueue
    module _ (v : ℤ) (is : p.call ≡ calls.Enqueue v) (no_late : f.late ≡ []) (answer : Answer) where
      pub put_out : (e : Enqueued) (n : ℕ) → Contains f.entered e → e.value ≡ v → e.taken ≡ Some n → Becomes f (Returned p.id answer) (later (filter (is_other p.id) f.pending) f)
      put_out e n here same taken ms facts may =
          oks.after_taken f ms facts no_late p.id v (enqueue_of_call f ms facts p h v is) answer (well_more ms _ facts.well may) e here same n taken

      pub put_waiting : (e : Enqueued) → Contains f.entered e → e.value ≡ v → e.taken ≡ None
          → Becomes f (Returned p.id answer) (record (later (filter (is_other p.id) f.pending) f) { waiting = f.waiting ++ record { value = v; by = f.now } ∷ [] })
      put_waiting e here same stays ms facts may =
          oks.after_put f ms facts no_late p.id v (enqueue_of_call f ms facts p h v is) answer (well_more ms _ facts.well may) e here same stays (record { value = v; by = f.now }) refl refl

      -- it is entered
      pub put_entered : (IsByValue f.entered → (x : Enqueued) → Contains f.entered x → x.value ≢ v) → (next : Facts) → Becomes f (Returned p.id answer) next
      put_entered none next ms facts may =
          let own = enqueue_of_call f ms facts p h v is in
          let k = facts.entries.all p.id v (own, (facts.pending.is p h).0.not_failed) in
          absurd (⊎_elim
          (λ i. none facts.entries.by_value k.0 i k.3)
          (λ i. Contains-nil k.0 (subst (λ l. Contains l k.0) no_late i))
          k.1)

    -- an ok that no queue gives
    pub foreign : (answer : Answer) → f.late ≡ [] → ((v : ℤ) → p.call ≢ calls.Enqueue v) → (p.call ≡ calls.Dequeue → (v : ℤ) → answer ≢ Number v) → Kills f (Returned p.id answer)
    foreign answer no_late no_enqueue no_answer ms facts may =
        let o = op_of f ms facts p h in
        let well = well_more ms (Returned p.id answer) facts.well may in
        dead_after_ok f ms facts no_late p.id answer well (other_oks ms p.id o.0 answer well o.1
        (λ v a. no_enqueue v (sym o.2 ∙ by_enqueues o.0 v a))
        (λ v d. no_answer (sym o.2 ∙ by_dequeues o.0 d) v))

    -- the ok of a dequeue
    module _ (is : p.call ≡ calls.Dequeue) (no_late : f.late ≡ []) where
      no_take : (v : ℤ) → ((ms : List Mark) → AreFacts f ms → ¬ MayTake ms p.id v) → Kills f (Returned p.id (Number v))
      no_take v none ms facts may =
          let o = op_of f ms facts p h in
          let well = well_more ms (Returned p.id (Number v)) facts.well may in
          dead_after_ok f ms facts no_late p.id (Number v) well (λ paired. none ms facts ((ok_of_dequeue ms p.id o.0 v well o.1 (dequeue_of_call f ms facts p h is)).0 paired).1)

      pub take_of_none : (v : ℤ) → (IsByValue f.entered → (x : Enqueued) → Contains f.entered x → x.value ≢ v) → Kills f (Returned p.id (Number v))
      take_of_none v none = no_take v (λ ms facts. deq.none_enqueued f ms facts p h v no_late (none facts.entries.by_value))

      pub take_of_taken : (e : Enqueued) (n : ℕ) → Contains f.entered e → e.taken ≡ Some n → Kills f (Returned p.id (Number e.value))
      take_of_taken e n here taken = no_take e.value (λ ms facts. deq.taken_before f ms facts p h e n here taken)

      pub take_too_late : (o : Owed) → Contains f.owed o → ¬ (p.since ≤ o.deadline) → Kills f (Returned p.id (Number o.value))
      take_too_late o i late = no_take o.value (λ ms facts. deq.too_late f ms facts p h o i late)

      pub take_after : (v : ℤ) (due : Option Owed) → IsDueOf f.owed v due → ¬ IsInTime p.since due → Kills f (Returned p.id (Number v))
      take_after v None is late = absurd (late tt)
      take_after v (Some o) is late = subst (λ w. Kills f (Returned p.id (Number w))) is.1 (take_too_late o is.0 late)

      module _ (e : Enqueued) (here : Contains f.entered e) (stays : e.taken ≡ None) (due : Option Owed) (is_due : IsDueOf f.owed e.value due)
          (others : List Waiting) (but : IsWaitingBut f.waiting e.value due others) (many : ℕ) (before : (w : Waiting) → Contains (take many others) w → w.by < e.since)
          (first : many < length others → (w : Waiting) → w ≡ get_or others many w → e.since ≤ w.by) where
        -- the values that are owed then
        abbrev pub owed_then : List Owed
        owed_then = filter (is_other_value e.value) f.owed ++ map (owed_by f.now) (take many others)

        module _ (ms : List Mark) (facts : AreFacts f ms) where
          is_but : IsBut f ms facts e.value others
          is_but = but_of f ms facts e.value due is_due others but

          abbrev parts : List Waiting
          parts = take many others ++ drop many others

          whole : parts ≡ others
          whole = take-append-drop many others

          split_in : (w : Waiting) → Contains parts w → Contains f.waiting w × (w.value ≢ e.value)
          split_in w i = is_but.are w (subst (λ l. Contains l w) whole i)

          split_all : (w : Waiting) → Contains f.waiting w → w.value ≢ e.value → Contains parts w
          split_all w i ne = subst (λ l. Contains l w) (sym whole) (is_but.all w i ne)

          split_order : Pairwise deq.IsSooner parts
          split_order = subst (Pairwise deq.IsSooner) (sym whole) is_but.in_order

          behind : (w : Waiting) → Contains (drop many others) w → e.since ≤ w.by
          behind = no_earlier others many e.since is_but.in_order first

        pub take_unserved : ¬ IsServed (filter (is_other_moment p.since) f.takers) owed_then → Kills f (Returned p.id (Number e.value))
        take_unserved none ms facts may =
            let well = well_more ms (Returned p.id (Number e.value)) facts.well may in
            dead_after_ok f ms facts no_late p.id (Number e.value) well
            (oks.killed_by_ok f ms facts no_late p h is e here stays well (take many others) (drop many others) (split_in ms facts) (split_all ms facts) (split_order ms facts) before (behind ms facts) none)

        pub taken : IsInTime p.since due → IsServed (filter (is_other_moment p.since) f.takers) owed_then
            → (entered : List Enqueued) → (IsByValue f.entered → IsByValue entered)
            → (IsByValue f.entered → (x : Enqueued) → Contains entered x ↔ ((x ≡ record e { taken = Some f.now }) ⊎ (Contains f.entered x × (x.value ≢ e.value))))
            → Becomes f (Returned p.id (Number e.value))
            (record (later (filter (is_other p.id) f.pending) f) { entered = entered; waiting = drop many others; owed = owed_then; takers = filter (is_other_moment p.since) f.takers })
        taken in_time served entered by has ms facts may =
            let b = facts.entries.by_value in
            oks.after_take f ms facts no_late p h is e here stays (well_more ms _ facts.well may) (take many others) (drop many others) (split_in ms facts) (split_all ms facts) (split_order ms facts) before (behind ms facts)
            due is_due in_time served entered (by b) (record e { taken = Some f.now }) refl refl refl refl (has b)

    -- fails
    pub other_failed : p.call ≡ calls.Other → Becomes f (Failed p.id) (later (filter (is_other p.id) f.pending) f)
    other_failed is ms facts may = fails.after_other f ms facts p.id (well_more ms _ facts.well may)
        (λ v a. (let q : calls.Enqueue v ≡ calls.Other = sym (call_of_enqueue f ms facts p h v a) ∙ is in cc))
        (λ m. (let q : calls.Dequeue ≡ calls.Other = sym (by_dequeues m.op m.dequeues) ∙ same_call f ms facts p h m.op m.invoked ∙ is in cc))

    pub dequeue_failed : p.call ≡ calls.Dequeue → IsServed (filter (is_other_moment p.since) f.takers) f.owed
        → Becomes f (Failed p.id) (record (later (filter (is_other p.id) f.pending) f) { takers = filter (is_other_moment p.since) f.takers })
    dequeue_failed is served ms facts may = fails.after_no_take f ms facts p h is (well_more ms _ facts.well may) served

    pub dequeue_kills : p.call ≡ calls.Dequeue → ¬ IsServed (filter (is_other_moment p.since) f.takers) f.owed → Kills f (Failed p.id)
    dequeue_kills is none ms facts may =
        let well = well_more ms (Failed p.id) facts.well may in
        dead_after_fail f ms facts p.id well (fails.killed_by_no_take f ms facts p h is well none)

    module _ (e : Enqueued) (here : Contains f.entered e) (is : p.call ≡ calls.Enqueue e.value) where
      pub late_failed : e.id ≢ p.id → Becomes f (Failed p.id) (record (later (filter (is_other p.id) f.pending) f) { late = filter (is_other_enqueue p.id) f.late })
      late_failed other ms facts may = fails.after_late_fail f ms facts p.id (well_more ms _ facts.well may) e.value (enqueue_of_call f ms facts p h e.value is) e here refl other

      module _ (same : e.id ≡ p.id) where
        pub enqueue_kills : (n : ℕ) → e.taken ≡ Some n → Kills f (Failed p.id)
        enqueue_kills n taken ms facts may =
            let well = well_more ms (Failed p.id) facts.well may in
            dead_after_fail f ms facts p.id well (fails.killed f ms facts p.id well e.value (enqueue_of_call f ms facts p h e.value is) e here refl same n taken)

        module _ (stays : e.taken ≡ None) where
          pub only_failed : ((x : Enqueued) → Contains f.late x → x.value ≢ e.value) → (entered : List Enqueued) → (IsByValue f.entered → IsByValue entered)
              → (IsByValue f.entered → (x : Enqueued) → Contains entered x ↔ (Contains f.entered x × (x.value ≢ e.value)))
              → Becomes f (Failed p.id) (record (later (filter (is_other p.id) f.pending) f) { entered = entered })
          only_failed none entered by has ms facts may =
              let b = facts.entries.by_value in
              fails.after_only_fail f ms facts p.id (well_more ms _ facts.well may) e.value (enqueue_of_call f ms facts p h e.value is) e here refl same stays entered (by b) (has b) none

          pub first_failed : (next : Enqueued) → Contains f.late next → next.value ≡ e.value → (entered : List Enqueued) → (IsByValue f.entered → IsByValue entered)
              → (IsByValue f.entered → (x : Enqueued) → Contains entered x ↔ ((x ≡ next) ⊎ (Contains f.entered x × (x.value ≢ next.value))))
              → Becomes f (Failed p.id) (record (later (filter (is_other p.id) f.pending) f) { entered = entered; late = filter (is_other_enqueue next.id) f.late })
          first_failed next late value entered by has ms facts may =
              let b = facts.entries.by_value in
              fails.after_first_fail f ms facts p.id (well_more ms _ facts.well may) e.value (enqueue_of_call f ms facts p h e.value is) e here refl same stays next late value entered (by b)
              (λ x. subst (λ v. Contains entered x ↔ ((x ≡ next) ⊎ (Contains f.entered x × (x.value ≢ v)))) value (has b x))

    -- each enqueue that is pending is entered, or its value is
    pub enqueue_entered : (v : ℤ) → p.call ≡ calls.Enqueue v → (IsByValue f.entered → (x : Enqueued) → Contains f.entered x → x.value ≢ v) → Kills f (Failed p.id)
    enqueue_entered v is none ms facts may =
        let own = enqueue_of_call f ms facts p h v is in
        let k = facts.entries.all p.id v (own, (facts.pending.is p h).0.not_failed) in
        absurd (⊎_elim
        (λ i. none facts.entries.by_value k.0 i k.3)
        (λ i. (let o = (facts.entries.is_late k.0 i).3 in none facts.entries.by_value o.0 o.1 (o.2 ∙ k.3)))
        k.1)
