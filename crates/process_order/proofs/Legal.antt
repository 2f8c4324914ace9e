-- A legal order keeps the order of each process, and an operation that crashed is the last one of its process
use Rattle.std.proofs.Common.{◌≢◌, ℕ, zero, suc, ◌≤◌, ◌<◌, ◌⊎◌, inl, inr, ⊎_elim, List, [], ◌∷◌, refl, ap, arith}
use Rattle.std.proofs.lemmas.Bool.{cases_eq}
use Rattle.std.specs.List.{Contains}
use Rattle.models.specs.Objects.{Object}
use Rattle.events.specs.declared.event.Event.{Event}
use Rattle.events.specs.Events.{Mark, entries_of, indexed_from, marks}
use Rattle.events.specs.Events.Mark.{Failed, Crashed}
use Rattle.history.specs.WellFormed.{IsHistoryOf}
use Rattle.history.proofs.ProcessRule.{is_history}
use Rattle.linspec.specs.MarkRule.{AreWellFormed}
use Rattle.linspec.specs.Operations.{Precedes}
use Rattle.linspec.specs.Orders.{Taken, Pairwise, IsLegalOrder}
use Rattle.linspec.proofs.Histories.{of_history}
use Rattle.linspec.proofs.Lists.{Contains-head, Contains-tail}
use Rattle.linspec.proofs.Marks.{Precedes-returned}
use Rattle.process_order.specs.ProcessOrder.{InvokesAt}
use Rattle.process_order.proofs.InTurn.{fails_or_precedes}
use Rattle.process_order.proofs.Once.{not_failed, not_returned}

-- two numbers
which_first : (i j : ℕ) → i ≢ j → (i < j) ⊎ (j < i)
which_first zero zero ne = absurd (ne refl)
which_first zero (suc j) ne = inl (omega arith)
which_first (suc i) zero ne = inr (omega arith)
which_first (suc i) (suc j) ne = ⊎_elim (λ l. inl (omega arith)) (λ l. inr (omega arith)) (which_first i j (λ e. ne (ap suc e)))

both : {X : Type 0} (R S T : X → X → Type 0) (xs : List X) → ((x y : X) → Contains xs x → Contains xs y → R x y → S x y → T x y) → Pairwise R xs → Pairwise S xs → Pairwise T xs
both R S T [] h r s = tt
both R S T (x ∷ xs) h r s = (
  λ y k. h x y (Contains-head x xs) (Contains-tail x xs y k) (r.0 y k) (s.0 y k),
  both R S T xs (λ a b j k. h a b (Contains-tail x xs a j) (Contains-tail x xs b k)) r.1 s.1,
)

module _ (c : ℕ) (events : List Event) (pos : 0 < c) (history : IsHistoryOf c events) where
  abbrev all : List Mark
  all = marks (entries_of (indexed_from 0 events))

  pub keeps : (o : Object) (order : List Taken) (s : o.State) → IsLegalOrder o all order s → Pairwise (λ x y. (p : ℕ) → InvokesAt events p x.id → InvokesAt events p y.id → x.id < y.id) order
  keeps o order s legal =
      both (λ x y. x.id ≢ y.id) (λ x y. ¬ Precedes all y.id x.id) (λ x y. (p : ℕ) → InvokesAt events p x.id → InvokesAt events p y.id → x.id < y.id) order
      (λ x y in_x in_y apart in_time p first second. ⊎_elim
      (λ less. less)
      (λ more. ⊎_elim
      (λ failed. absurd (legal.none_failed y in_y failed))
      (λ precedes. absurd (in_time precedes))
      (fails_or_precedes c events p y.id x.id pos history second first more))
      (which_first x.id y.id apart))
      legal.once legal.in_time

  well : AreWellFormed all
  well = (of_history (indexed_from 0 events) (is_history c events history)).1

  -- an operation that crashed has neither failed nor returned
  never_over : (i j : ℕ) → Contains all (Crashed i) → Contains all (Failed i) ⊎ Precedes all i j → ⊥
  never_over i j crashed h = ⊎_elim (not_failed all well i crashed) (λ p. not_returned all well i crashed (Precedes-returned all i j p)) h

  pub crashed_is_last : (p i j : ℕ) → InvokesAt events p i → InvokesAt events p j → Contains all (Crashed i) → j ≤ i
  crashed_is_last p i j first second crashed =
      ⊎_elim
      (λ same. omega arith)
      (λ ne. ⊎_elim (λ less. absurd (never_over i j crashed (fails_or_precedes c events p i j pos history first second less))) (λ more. omega arith) (which_first i j ne))
      (cases_eq i j)
