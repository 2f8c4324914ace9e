-- a dequeue that is open no longer: the other takers
use Rattle.std.proofs.Common.{◌≡◌, ◌≢◌, ℕ, ℤ, inl, List, [], ◌∷◌, ◌++◌, subst}
use Rattle.std.specs.List.{Contains, filter}
use Rattle.models.specs.declared.operation.Op.{Op}
use Rattle.models.specs.declared.finding.Answer.{Answer}
use Rattle.events.specs.Events.{Mark}
use Rattle.events.specs.Events.Mark.{Invoked, Returned, Failed}
use Rattle.linspec.specs.MarkRule.{AreWellFormed}
use Rattle.linspec.proofs.Filters.{from_filter, to_filter, Pairwise-filter}
use Rattle.queue_pairs.specs.Pairs.{IsOwedTo, MayDequeue, AreTakers, MayFail}
use Rattle.wide_fifo_queue.specs.declared.known.Call.TheVariants as calls
use Rattle.wide_fifo_queue.specs.declared.known.Pending.{Pending}
use Rattle.wide_fifo_queue.specs.Facts.{StandsAt, IsServed, AreMoments, Facts, AreFacts, is_other_moment}
use Rattle.wide_fifo_queue.proofs.Moments.{invoked_at_once, stands_once, stands_on}
use Rattle.wide_fifo_queue.proofs.Serving.{IsLess}
use Rattle.wide_fifo_queue.proofs.Takers.{AreMomentsOf}
use Rattle.wide_fifo_queue.proofs.Knowing.{owed_has, owed_is}
use Rattle.wide_fifo_queue.proofs.Calls.{no_enqueue_of_call}
use Rattle.wide_fifo_queue.proofs.Carrying.{not_same, is_not_same, may_dequeue_is}
use Rattle.wide_fifo_queue.proofs.Owing.{Taking, AreDue, served_taking, taking_served}

module _ (f : Facts) (ms : List Mark) (facts : AreFacts f ms) (p : Pending) (h : Contains f.pending p) where
  -- another dequeue that may take a value
  abbrev pub MayStill : ℕ → Type 0
  MayStill id = MayDequeue ms id × (id ≢ p.id)

  abbrev pub others : List ℕ
  others = filter (is_other_moment p.since) f.takers

  abbrev own : Op
  own = (facts.pending.is p h).1.0

  since : StandsAt ms p.since (Invoked p.id own)
  since = (facts.pending.is p h).1.1

  pub others_are : AreMomentsOf ms MayStill others
  others_are = record {
    is = λ t i.
        let j = from_filter (is_other_moment p.since) f.takers t i in
        let k = facts.takers.is t j.0 in
        (k.0, (k.1, (k.2, λ same. not_same t p.since j.1 (invoked_at_once ms facts.well p.id t p.since k.1 own (subst (λ x. StandsAt ms t (Invoked x k.1)) same k.3) since)), k.3));
    all = λ id m.
        let k = facts.takers.all id m.0 in
        (k.0, k.1, to_filter (is_other_moment p.since) f.takers k.0 k.2 (is_not_same k.0 p.since (λ e. m.1 (let q : Invoked id k.1 ≡ Invoked p.id own = stands_once ms p.since (Invoked id k.1) (Invoked p.id own) (subst (λ t. StandsAt ms t (Invoked id k.1)) e k.3) since in cc))), k.3);
    in_order = Pairwise-filter (is_other_moment p.since) IsLess f.takers facts.takers.in_order;
  }

  -- the same with a mark behind, which ends the operation
  pub others_after : (m : Mark) → AreWellFormed (ms ++ m ∷ []) → ((id : ℕ) → id ≢ p.id → ((a : Answer) → m ≢ Returned id a) × (m ≢ Failed id))
      → ((id : ℕ) → MayDequeue (ms ++ m ∷ []) id → MayDequeue ms id × (id ≢ p.id)) → AreMoments others (ms ++ m ∷ [])
  others_after m well other was = record {
    is = λ t i.
        let k = others_are.is t i in
        let o = other k.0 k.1.1.1 in
        (k.0, k.1.0, may_dequeue_is ms m well k.0 k.1.1.0 o.0 o.1, stands_on ms (m ∷ []) t _ k.1.2);
    all = λ id may. (let k = others_are.all id (was id may) in (k.0, k.1, k.2, stands_on ms (m ∷ []) k.0 _ k.3));
    in_order = others_are.in_order;
  }

  -- what is owed has its place
  abbrev IsOwed : ℤ → Type 0
  IsOwed u = (d : ℕ) × IsOwedTo ms u d

  due : AreDue ms IsOwed f.owed
  due = record {
    has = λ u i. (let k = owed_has f ms facts u i.0 i.1 in (k.0, k.2, k.3));
    has_by = λ u d i o. owed_has f ms facts u d o;
    is = λ o i. (let k = owed_is f ms facts o i in (k.0, k.1));
    is_by = λ o i. inl (owed_is f ms facts o i);
    in_order = facts.owed.in_order;
  }

  -- a dequeue may fail exactly if the others serve
  pub may_fail : p.call ≡ calls.Dequeue → IsServed others f.owed → MayFail ms p.id
  may_fail dequeues served =
      let t = served_taking ms facts.well IsOwed MayStill f.owed due others others_are served in
      let does : Taking ms IsOwed MayStill t.0 = t.1 in
      record {
        added = λ d v i a. absurd (no_enqueue_of_call f ms facts p h dequeues v a);
        taken = (
          t.0,
          record {
            may = λ u d o. (does.may_take u (d, o)).0;
            in_time = λ u d o. does.in_time u d (d, o) o;
            apart = λ u w d e o q same. does.apart u w (d, o) (e, q) same;
          },
          λ u d o. (does.may_take u (d, o)).1,
        );
      }

  pub served : MayFail ms p.id → IsServed others f.owed
  served fails =
      let t : AreTakers ms fails.taken.0 = fails.taken.1 in
      taking_served ms facts.well IsOwed MayStill f.owed due others others_are fails.taken.0 (record {
        may_take = λ u i. (t.may u i.0 i.1, fails.taken.2 u i.0 i.1);
        in_time = λ u d i o. t.in_time u d o;
        apart = λ u w i j same. t.apart u w i.0 j.0 i.1 j.1 same;
      })
