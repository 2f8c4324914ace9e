-- the ok of a dequeue: which values are owed then
use Rattle.std.proofs.Common.{◌≡◌, ◌≢◌, ℕ, ◌<◌, ◌≤◌, ℤ, inl, inr, ⊎_elim, Option, Some, None, not, true, List, [], ◌∷◌, ◌++◌, map, length, refl, sym, ap, ◌∙◌, subst, arith}
use Rattle.std.specs.List.{Contains, filter}
use Rattle.std.specs.Ordering.{int_eq}
use Rattle.std.proofs.lemmas.Bool.{true≢false}
use Rattle.std.proofs.lemmas.Bool.Decides.{Decides-int_eq}
use Rattle.std.proofs.lemmas.List.Elements.{Contains-append_left, Contains-append_right, Contains-append_cases}
use Rattle.models.specs.declared.operation.Op.{Op}
use Rattle.models.specs.declared.finding.Answer.TheVariants.{Number}
use Rattle.events.specs.Events.{Mark}
use Rattle.events.specs.Events.Mark.{Returned}
use Rattle.linspec.specs.Orders.{Pairwise}
use Rattle.linspec.proofs.Filters.{from_filter, to_filter, Pairwise-filter, to_map, from_map}
use Rattle.linspec.proofs.Lists.{Pairwise-append, Pairwise-left, Contains-nil, Contains-head, Contains-tail}
use Rattle.queue_pairs.specs.Pairs.{IsOwedBeside, AreTakersBeside, MayTake}
use Rattle.wide_fifo_queue.specs.declared.known.Pending.{Pending}
use Rattle.wide_fifo_queue.specs.declared.known.Enqueued.{Enqueued}
use Rattle.wide_fifo_queue.specs.declared.known.Waiting.{Waiting}
use Rattle.wide_fifo_queue.specs.declared.known.Owed.{Owed}
use Rattle.wide_fifo_queue.specs.Facts.{StandsAt, IsServed, Waits, IsPassed, Facts, AreFacts, is_other_value, owed_by}
use Rattle.wide_fifo_queue.specs.Queries.{IsDueOf, IsInTime}
use Rattle.wide_fifo_queue.proofs.Moments.{returned_at_once, stands_below, not_precedes, no_later}
use Rattle.wide_fifo_queue.proofs.Serving.{IsInTurn, other_int}
use Rattle.wide_fifo_queue.proofs.Knowing.{in_some_order, one_entry, is_entry, stays_untold, before_waits, waits_before, waits_untold, owed_has, owed_is}
use Rattle.wide_fifo_queue.proofs.Leaving.{MayStill, others, others_are}
use Rattle.wide_fifo_queue.proofs.Owing.{Taking, AreDue, served_taking, taking_served}

pub other_value : (v : ℤ) (o : Owed) → o.value ≢ v → is_other_value v o ≡ true
other_value v o ne = ap not (other_int o.value v ne)

pub value_differs : (v : ℤ) (o : Owed) → is_other_value v o ≡ true → o.value ≢ v
value_differs v o t e = let q : int_eq o.value v ≡ true = (Decides-int_eq o.value v).1 e in true≢false (sym t ∙ ap not q)

abbrev pub IsSooner : Waiting → Waiting → Type 0
IsSooner v w = v.by < w.by

-- each of two related ones, mapped
pub Pairwise-map : {X Y : Type 0} (g : X → Y) (R : X → X → Type 0) (S : Y → Y → Type 0) (xs : List X) → ((x y : X) → Contains xs x → Contains xs y → R x y → S (g x) (g y)) → Pairwise R xs → Pairwise S (map g xs)
Pairwise-map g R S [] to p = tt
Pairwise-map g R S (x ∷ xs) to p = (
  (λ y h. (let k = from_map g xs y h in subst (S (g x)) k.2 (to x k.0 (Contains-head x xs) (Contains-tail x xs k.0 k.1) (p.0 k.0 k.1)))),
  Pairwise-map g R S xs (λ y z h k r. to y z (Contains-tail x xs y h) (Contains-tail x xs z k) r) p.1,
)

module _ (f : Facts) (ms : List Mark) (facts : AreFacts f ms) where
  -- a value waits since one moment
  pub waits_once : (u : ℤ) (n k : ℕ) → Waits f.entered ms u n → Waits f.entered ms u k → n ≡ k
  waits_once u n k w x =
      let one : w.entry ≡ x.entry = one_entry f.entered facts.entries.by_value w.entry x.entry w.here x.here (w.value ∙ sym x.value) in
      returned_at_once ms facts.well x.entry.id n k w.answer x.answer (subst (λ (e : Enqueued). StandsAt ms n (Returned e.id w.answer)) one w.stands) x.stands

  -- no value that was passed over is among those that were not
  pub apart : (w : Waiting) (o : Owed) → Contains f.waiting w → Contains f.owed o → o.value ≢ w.value
  apart w o h k e =
      let by : o.by ≡ w.by = waits_once w.value o.by w.by (subst (λ u. Waits f.entered ms u o.by) e (facts.owed.is o k)) (facts.waiting.is w h) in
      facts.waiting.not_passed w o.deadline h (subst (λ n. IsPassed f.entered n o.deadline) by (facts.owed.passed o k))

module _ (f : Facts) (ms : List Mark) (facts : AreFacts f ms) (e : Enqueued) (here : Contains f.entered e) (stays : e.taken ≡ None) (pass rest : List Waiting)
    (split_in : (w : Waiting) → Contains (pass ++ rest) w → Contains f.waiting w × (w.value ≢ e.value))
    (split_all : (w : Waiting) → Contains f.waiting w → w.value ≢ e.value → Contains (pass ++ rest) w)
    (split_order : Pairwise IsSooner (pass ++ rest))
    (before : (w : Waiting) → Contains pass w → w.by < e.since)
    (behind : (w : Waiting) → Contains rest w → e.since ≤ w.by) where
  abbrev pub old_owed : List Owed
  old_owed = filter (is_other_value e.value) f.owed

  abbrev pub new_owed : List Owed
  new_owed = map (owed_by f.now) pass

  abbrev pub all_owed : List Owed
  all_owed = old_owed ++ new_owed

  pub pass_in : (w : Waiting) → Contains pass w → Contains f.waiting w × (w.value ≢ e.value)
  pass_in w h = split_in w (Contains-append_left pass rest w h)

  pub old_in : (o : Owed) → Contains old_owed o → Contains f.owed o × (o.value ≢ e.value)
  old_in o h = let k = from_filter (is_other_value e.value) f.owed o h in (k.0, value_differs e.value o k.1)

  pub old_has : (o : Owed) → Contains f.owed o → o.value ≢ e.value → Contains all_owed o
  old_has o h ne = Contains-append_left old_owed new_owed o (to_filter (is_other_value e.value) f.owed o h (other_value e.value o ne))

  pub new_has : (w : Waiting) → Contains pass w → Contains all_owed (owed_by f.now w)
  new_has w h = Contains-append_right old_owed new_owed (owed_by f.now w) (to_map (owed_by f.now) pass w h)

  pub deadline_now : (o : Owed) → Contains f.owed o → o.deadline < f.now
  deadline_now o h =
      let k = owed_is f ms facts o h in
      let lt : o.deadline < length ms = stands_below ms o.deadline _ k.2 in
      let now : f.now ≡ length ms = facts.now in
      omega arith

  pub in_turn : Pairwise IsInTurn all_owed
  in_turn = Pairwise-append IsInTurn old_owed new_owed
      (Pairwise-filter (is_other_value e.value) IsInTurn f.owed facts.owed.in_order)
      (Pairwise-map (owed_by f.now) IsSooner IsInTurn pass
      (λ w x h k (lt : w.by < x.by). (
        (let now : f.now ≤ f.now = omega arith in now),
        (λ (same : w.value ≡ x.value).
            let by : w.by ≡ x.by = waits_once f ms facts x.value w.by x.by (subst (λ u. Waits f.entered ms u w.by) same (facts.waiting.is w (pass_in w h).0)) (facts.waiting.is x (pass_in x k).0) in
            absurd (omega arith)),
      ))
      (Pairwise-left IsSooner pass rest split_order))
      (λ o q h k.
      let x = from_map (owed_by f.now) pass q k in
      let i = (old_in o h).0 in
      let lt : o.deadline < f.now = deadline_now o i in
      subst (IsInTurn o) x.2 ((omega arith), apart f ms facts x.0 o (pass_in x.0 x.1).0 i))

  -- the values that are owed once this one is dequeued
  abbrev pub IsOwedThen : ℤ → Type 0
  IsOwedThen u = IsOwedBeside ms e.value u

  has_before : (u : ℤ) → u ≢ e.value → (n : ℕ) → Waits f.entered ms u n → n < e.since → (o : Owed) × Contains all_owed o × (o.value ≡ u)
  has_before u ne n w lt = ⊎_elim
      (λ x. ⊎_elim
      (λ k. (owed_by f.now x.0, new_has x.0 k, x.2))
      (λ k. (let le : e.since ≤ x.0.by = behind x.0 k in let same : x.0.by ≡ n = x.3 in absurd (omega arith)))
      (Contains-append_cases pass rest x.0 (split_all x.0 x.1 (λ q. ne (sym x.2 ∙ q)))))
      (λ x. (x.0, old_has x.0 x.1 (λ q. ne (sym x.2 ∙ q)), x.2))
      (facts.among u n w)

  pub due : AreDue ms IsOwedThen all_owed
  due = record {
    has = λ u p. ⊎_elim
        (λ b. (let w = before_waits f ms facts u e.value b p.1 e here refl in has_before u p.0 w.0 w.1 w.2))
        (λ o. (let k = owed_has f ms facts u o.0 o.1 in (k.0, old_has k.0 k.2 (λ q. p.0 (sym k.3 ∙ q)), k.3)))
        p.2;
    has_by = λ u d p o. (let k = owed_has f ms facts u d o in (k.0, k.1, old_has k.0 k.2 (λ q. p.0 (sym k.3 ∙ q)), k.3, k.4, k.5));
    is = λ o h. ⊎_elim
        (λ k. (let i = old_in o k in let is = owed_is f ms facts o i.0 in (i.1, is.1.untold, inr (is.0, is.1))))
        (λ k.
        let x = from_map (owed_by f.now) pass o k in
        let i = pass_in x.0 x.1 in
        let w = facts.waiting.is x.0 i.0 in
        subst (λ (q : Owed). IsOwedThen q.value) x.2 (i.1, waits_untold f ms facts x.0.value x.0.by w, inl (waits_before f ms facts x.0.value x.0.by w e here (before x.0 x.1))))
        (Contains-append_cases old_owed new_owed o h);
    is_by = λ o h. ⊎_elim
        (λ k. inl (owed_is f ms facts o (old_in o k).0))
        (λ k.
        let x = from_map (owed_by f.now) pass o k in
        let now : f.now ≡ length ms = facts.now in
        inr (subst (λ (q : Owed). length ms ≤ q.deadline) x.2 (omega arith)))
        (Contains-append_cases old_owed new_owed o h);
    in_order = in_turn;
  }

  module _ (p : Pending) (h : Contains f.pending p) (due_of : Option Owed) (is_due : IsDueOf f.owed e.value due_of) (in_time : IsInTime p.since due_of) where
    abbrev own : Op
    own = (facts.pending.is p h).1.0

    -- it is owed to no dequeue that precedes this one
    timely : (o : Owed) → Contains f.owed o → o.value ≡ e.value → p.since ≤ o.deadline
    timely o k same = by_due due_of is_due in_time
      where
        one_owed : (x y : Owed) → Contains f.owed x → Contains f.owed y → x.value ≡ y.value → x ≡ y
        one_owed x y i j q = ⊎_elim
            (λ r. r)
            (λ r. ⊎_elim (λ (t : IsInTurn x y). absurd (t.1 q)) (λ (t : IsInTurn y x). absurd (t.1 (sym q))) r)
            (in_some_order IsInTurn f.owed facts.owed.in_order x y i j)

        by_due : (x : Option Owed) → IsDueOf f.owed e.value x → IsInTime p.since x → p.since ≤ o.deadline
        by_due None none t = absurd (none o k same)
        by_due (Some x) is t = subst (λ (y : Owed). p.since ≤ y.deadline) (one_owed x o is.0 k (is.1 ∙ sym same)) t

    pub may_take : IsServed (others f ms facts p h) all_owed → MayTake ms p.id e.value
    may_take served =
        let t = served_taking ms facts.well IsOwedThen (MayStill f ms facts p h) all_owed due (others f ms facts p h) (others_are f ms facts p h) served in
        let does : Taking ms IsOwedThen (MayStill f ms facts p h) t.0 = t.1 in
        record {
          added = (e.id, is_entry f ms facts e here);
          untold = stays_untold f ms facts e here stays;
          in_turn = λ d o.
              let k = owed_has f ms facts e.value d o in
              let le : p.since ≤ k.0.deadline = timely k.0 k.2 k.3 in
              let more : k.0.deadline ≤ k.1 = k.5 in
              not_precedes ms facts.well d p.id k.1 p.since (Number o.v) own k.4 (facts.pending.is p h).1.1 (omega arith);
          taken = (
            t.0,
            record {
              may = λ u q. (does.may_take u q).0;
              others = λ u q. (does.may_take u q).1;
              in_time = λ u d q o. does.in_time u d q o;
              apart = λ u w q r same. does.apart u w q r same;
            },
          );
        }

  module _ (p : Pending) (h : Contains f.pending p) where
    pub served : MayTake ms p.id e.value → IsServed (others f ms facts p h) all_owed
    served takes =
        let t : AreTakersBeside ms p.id e.value takes.taken.0 = takes.taken.1 in
        taking_served ms facts.well IsOwedThen (MayStill f ms facts p h) all_owed due (others f ms facts p h) (others_are f ms facts p h) takes.taken.0 (record {
          may_take = λ u q. (t.may u q, t.others u q);
          in_time = λ u d q o. t.in_time u d q o;
          apart = λ u w q r same. t.apart u w q r same;
        })

-- what can't be dequeued
module _ (f : Facts) (ms : List Mark) (facts : AreFacts f ms) (p : Pending) (h : Contains f.pending p) where
  pub none_enqueued : (v : ℤ) → f.late ≡ [] → ((e : Enqueued) → Contains f.entered e → e.value ≢ v) → ¬ MayTake ms p.id v
  none_enqueued v no_late none takes =
      let k = facts.entries.all takes.added.0 v takes.added.1 in
      ⊎_elim
      (λ i. none k.0 i k.3)
      (λ i. Contains-nil k.0 (subst (λ l. Contains l k.0) no_late i))
      k.1

  pub taken_before : (e : Enqueued) (n : ℕ) → Contains f.entered e → e.taken ≡ Some n → ¬ MayTake ms p.id e.value
  taken_before e n i is takes = let t = facts.entries.taken e n i is in takes.untold t.0 t.1

  pub too_late : (o : Owed) → Contains f.owed o → ¬ (p.since ≤ o.deadline) → ¬ MayTake ms p.id o.value
  too_late o i late takes =
      let k = owed_is f ms facts o i in
      late (no_later ms k.0 p.id o.deadline p.since (Number k.1.v) (facts.pending.is p h).1.0 k.2 (facts.pending.is p h).1.1 (takes.in_turn k.0 k.1))
