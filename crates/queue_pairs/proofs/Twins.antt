-- when operations begin and end, and of two enqueues of one value
use Rattle.std.proofs.Common.{◌≡◌, ℕ, ◌≤◌, ◌<◌, ℤ, ◌⊎◌, inl, inr, ⊎_elim, List, length, ap, ◌∙◌, subst, arith}
use Rattle.std.proofs.lemmas.Bool.{cases_lt, cases_eq}
use Rattle.models.specs.declared.operation.Op.{Op}
use Rattle.events.specs.Events.{Mark}
use Rattle.linspec.specs.MarkRule.{AreWellFormed}
use Rattle.linspec.specs.Operations.{IsInvoked, HasReturned, Precedes}
use Rattle.linspec.proofs.Marks.{Precedes-returned}
use Rattle.linspec.proofs.Fates.{returned_or_not}
use Rattle.linspec.specs.Twins.{IsEnqueueOf, MayEnqueue}
use Rattle.queue_pairs.specs.Pairs.{HasDequeued, IsLate, TwinsAreLate}
use Rattle.queue_pairs.proofs.Once.{one_op, not_before_itself}
use Rattle.queue_pairs.proofs.Times.{moment, ended, precedes_by, moment_within, ended_never}
use Rattle.queue_pairs.proofs.Steps.{no_both, same_int_part}

module _ (ms : List Mark) (well : AreWellFormed ms) where
  pub begins_within : (a b : ℕ) → IsInvoked ms b → ¬ Precedes ms a b → moment ms b ≤ ended ms a
  begins_within a b i n = ⊎_elim
      (λ d. ⊎_elim (λ lt. absurd (n (precedes_by ms a b d i lt))) (λ nlt. omega arith) (cases_lt (ended ms a) (moment ms b)))
      (λ nd. (let e : ended ms a ≡ length ms = ended_never ms a nd in let f : moment ms b ≤ length ms = moment_within ms b in omega (arith, e)))
      (returned_or_not ms a)

  pub precedes_if : (a b : ℕ) → IsInvoked ms b → ended ms a < moment ms b → Precedes ms a b
  precedes_if a b i lt = ⊎_elim
      (λ d. precedes_by ms a b d i lt)
      (λ nd. (let e : ended ms a ≡ length ms = ended_never ms a nd in let f : moment ms b ≤ length ms = moment_within ms b in absurd (omega (arith, e))))
      (returned_or_not ms a)

  -- a done operation is not late
  pub done_not_late : (a : ℕ) → HasReturned ms a → ¬ IsLate ms a
  done_not_late a d l = not_before_itself ms well a (l a d)

  pub enqueue_value : (id : ℕ) (v w : ℤ) → IsEnqueueOf ms id v → IsEnqueueOf ms id w → v ≡ w
  enqueue_value id v w h k = same_int_part v w h.0.part h.2.1 (ap (λ (o : Op). o.part) (one_op ms well id h.0 k.0 h.1 k.1) ∙ k.2.1)

  pub enqueue_no_dequeue : (id : ℕ) (v w : ℤ) → IsEnqueueOf ms id v → HasDequeued ms id w → ⊥
  enqueue_no_dequeue id v w h k = no_both h.0.name h.2.0 (ap (λ (o : Op). o.name) (one_op ms well id h.0 k.op h.1 k.invoked) ∙ k.dequeues.0)

  module _ (late : TwinsAreLate ms) where
    -- of two enqueues of a value one is late
    pub one_enqueue : (a b : ℕ) (v : ℤ) → MayEnqueue ms a v → MayEnqueue ms b v → ¬ IsLate ms a → (a ≡ b) ⊎ IsLate ms b
    one_enqueue a b v h k n = ⊎_elim
        inl
        (λ ne. ⊎_elim (λ l. absurd (n l)) inr (late a b v (record { two = ne; first = h; second = k })))
        (cases_eq a b)

    -- where an operation precedes an enqueue that is not late, it precedes each of that value
    pub before_each : (a b c : ℕ) (v : ℤ) → MayEnqueue ms b v → ¬ IsLate ms b → Precedes ms a b → MayEnqueue ms c v → Precedes ms a c
    before_each a b c v h n p k = ⊎_elim
        (λ e. subst (Precedes ms a) e p)
        (λ l. l a (Precedes-returned ms a b p))
        (one_enqueue b c v h k n)
