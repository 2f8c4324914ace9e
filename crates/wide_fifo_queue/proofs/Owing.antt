-- owed values are served exactly if operations that may take them do so in time
use Rattle.std.proofs.Common.{◌≡◌, ℕ, ◌<◌, ◌≤◌, ℤ, ◌⊎◌, ⊎_elim, List, length, sym, ap, ◌∙◌, subst, arith}
use Rattle.std.specs.List.{Contains}
use Rattle.models.specs.declared.finding.Answer.TheVariants.{Number}
use Rattle.events.specs.Events.{Mark}
use Rattle.events.specs.Events.Mark.{Invoked, Returned}
use Rattle.linspec.specs.Operations.{Precedes}
use Rattle.linspec.specs.Orders.{Pairwise}
use Rattle.linspec.specs.MarkRule.{AreWellFormed}
use Rattle.queue_pairs.specs.Pairs.{IsOwedTo}
use Rattle.wide_fifo_queue.specs.declared.known.Owed.{Owed}
use Rattle.wide_fifo_queue.specs.Facts.{StandsAt, IsServed}
use Rattle.wide_fifo_queue.proofs.Moments.{stands_below, not_precedes, no_later}
use Rattle.wide_fifo_queue.proofs.Serving.{IsInTurn}
use Rattle.wide_fifo_queue.proofs.Takers.{Take, AreMomentsOf, served_take, take_served}

-- each value of which P holds is taken by an operation of its own, and none precedes that to which the value is owed
pub record Taking (ms : List Mark) (P : ℤ → Type 0) (may : ℕ → Type 0) (taker : ℤ → ℕ) : Type 0 where
  pub may_take : (u : ℤ) → P u → may (taker u)
  pub in_time : (u : ℤ) (d : ℕ) → P u → IsOwedTo ms u d → ¬ Precedes ms d (taker u)
  pub apart : (u w : ℤ) → P u → P w → taker u ≡ taker w → u ≡ w

-- these are the places of the values of which P holds, with their deadlines
pub record AreDue (ms : List Mark) (P : ℤ → Type 0) (owed : List Owed) : Type 0 where
  pub has : (u : ℤ) → P u → (o : Owed) × Contains owed o × (o.value ≡ u)
  pub has_by : (u : ℤ) (d : ℕ) → P u → (i : IsOwedTo ms u d)
      → (o : Owed) × (t : ℕ) × Contains owed o × (o.value ≡ u) × StandsAt ms t (Returned d (Number i.v)) × (o.deadline ≤ t)
  pub is : (o : Owed) → Contains owed o → P o.value
  pub is_by : (o : Owed) → Contains owed o
      → ((d : ℕ) × (i : IsOwedTo ms o.value d) × StandsAt ms o.deadline (Returned d (Number i.v))) ⊎ (length ms ≤ o.deadline)
  pub in_order : Pairwise IsInTurn owed

module _ (ms : List Mark) (well : AreWellFormed ms) (P : ℤ → Type 0) (may : ℕ → Type 0) (owed : List Owed) (due : AreDue ms P owed) (takers : List ℕ) (are : AreMomentsOf ms may takers) where
  pub served_taking : IsServed takers owed → (taker : ℤ → ℕ) × Taking ms P may taker
  served_taking served =
      let take = served_take ms well may takers are owed due.in_order served in
      let does : Take ms may owed take.0 = take.1 in (
        take.0,
        record {
          may_take = λ u p. (let k = due.has u p in subst (λ x. may (take.0 x)) k.2 (does.may_take k.0 k.1));
          in_time = λ u d p i.
              let k = due.has_by u d p i in
              let m = are.all (take.0 k.0.value) (does.may_take k.0 k.2) in
              let le : m.0 ≤ k.0.deadline = does.in_time k.0 m.0 m.1 k.2 m.3 in
              let more : k.0.deadline ≤ k.1 = k.5 in
              not_precedes ms well d (take.0 u) k.1 m.0 (Number i.v) m.1 k.4 (subst (λ x. StandsAt ms m.0 (Invoked (take.0 x) m.1)) k.3 m.3) (omega arith);
          apart = λ u w p q same.
              let k = due.has u p in
              let j = due.has w q in
              sym k.2 ∙ does.apart k.0 j.0 k.1 j.1 (ap take.0 k.2 ∙ same ∙ ap take.0 (sym j.2)) ∙ j.2;
        },
      )

  pub taking_served : (taker : ℤ → ℕ) → Taking ms P may taker → IsServed takers owed
  taking_served taker taking = take_served ms well may takers are owed due.in_order taker (record {
    may_take = λ o h. taking.may_take o.value (due.is o h);
    in_time = λ o n op h s. ⊎_elim
        (λ k. no_later ms k.0 (taker o.value) o.deadline n (Number k.1.v) op k.2 s (taking.in_time o.value k.0 (due.is o h) k.1))
        (λ (le : length ms ≤ o.deadline). (let lt : n < length ms = stands_below ms n (Invoked (taker o.value) op) s in omega arith))
        (due.is_by o h);
    apart = λ o p h k same. taking.apart o.value p.value (due.is o h) (due.is p k) same;
  })
