-- Invariant: the transitions of each call in the states that were tried, by numbers
use Rattle.std.specs.Prelude.{◌≡◌, ◌≢◌, ◌↔◌, ◌⊎◌, ◌<◌, ◌≤◌, ◌+◌, ℕ, Bool, true, false, Option, Some, List, [], ◌∷◌, length, slice_get, get_or}
use Rattle.models.specs.declared.operation.Op.{Op}
use Rattle.models.specs.declared.finding.Found.{Found}
use Rattle.interner.specs.Numbers.{IsSlot}
use Rattle.moves.specs.declared.pending_op.PendingOp.{PendingOp}
use Rattle.moves.specs.declared.table.Table.{Table}
use Rattle.moves.specs.Tables.{OnlyTries, told_by}
use Rattle.products.specs.Products.{Has, IsIn, Product}
use Rattle.product_ends.specs.declared.transitions.Transition.{Transition}
use Rattle.product_ends.specs.declared.transitions.Transition.TheVariants.{Nowhere, To}
use Rattle.product_ends.specs.declared.transitions.Transitions.{Transitions}

-- the set has this number alone
abbrev pub IsAlone : ℕ → ℕ → Type 0
IsAlone set number = (n : ℕ) → Has set n ↔ (n ≡ number)

-- the transition is that of these outcomes, at most one
abbrev pub IsTransition : {S : Type 0} → Table S → PendingOp → List (S × Found) → Transition → Type 0
IsTransition t c outcomes Nowhere = outcomes ≡ []
IsTransition {S} t c outcomes (To to set) =
    (outcome : S × Found) × (outcomes ≡ outcome ∷ []) × (slice_get t.states to ≡ Some outcome.0)
    × (slot : ℕ) × IsSlot t.founds slot (Some (told_by c.crashed outcome.1)) × IsAlone set slot

-- where the transitions in the state with this number stand, one more than that; zero if the calls were not tried there
abbrev pub order_in : {S : Type 0} → Transitions S → ℕ → ℕ
order_in d number = get_or d.order.items number 0

-- the calls were tried in the state with this number
abbrev pub IsTried : {S : Type 0} → Transitions S → ℕ → Type 0
IsTried d number = 0 < order_in d number

-- the transition of the call at this place in the state with this number
abbrev pub transition_at : {S : Type 0} → Transitions S → ℕ → ℕ → Option Transition
transition_at d order at = slice_get d.transitions.items (order + at)

-- the transitions of a state that was tried are there
abbrev pub AreWithin : {S : Type 0} → Transitions S → ℕ → Type 0
AreWithin d calls = (number order : ℕ) → order_in d number ≡ order + 1
    → order + calls ≤ length d.transitions.items

-- each transition is what its call does in its state
abbrev pub AreTransitions : {S : Type 0} → (Op → S → List (S × Found)) → Table S → List PendingOp → Transitions S → Type 0
AreTransitions {S} apply t calls d = (number order at : ℕ) (c : PendingOp) (transition : Transition)
    → order_in d number ≡ order + 1 → slice_get calls at ≡ Some c → transition_at d order at ≡ Some transition
    → (s : S) × (slice_get t.states number ≡ Some s) × IsTransition t c (apply c.op s) transition

-- the set is what the transition finds, which stays in the state with this number; or it has no number
abbrev pub IsStay : ℕ → ℕ → Transition → Type 0
IsStay number stay transition = (slot : ℕ) → Has stay slot → transition ≡ To number stay

-- the answer of the call at this place if it stays in the state
abbrev pub stay_at : {S : Type 0} → Transitions S → ℕ → ℕ → ℕ
stay_at d order at = get_or d.stays.items (order + at) 0

-- there is one for each transition
pub record AreStays {S : Type 0} (d : Transitions S) (calls : ℕ) : Type 0 where
  pub long : length d.stays.items ≡ length d.transitions.items
  pub each : (number order at slot : ℕ) → order_in d number ≡ order + 1 → at < calls
      → Has (stay_at d order at) slot → transition_at d order at ≡ Some (To number (stay_at d order at))

-- the memory of calls in states is right. The transitions of each state that was tried are there, each is that of its call, and the answers that
-- stay in the state are recorded
pub record AreSound {S : Type 0} (apply : Op → S → List (S × Found)) (t : Table S) (calls : List PendingOp) (d : Transitions S)
    : Type 0 where
  pub within : AreWithin d (length calls)
  pub transitions : AreTransitions apply t calls d
  pub stays : AreStays d (length calls)

-- the calls are tried in the state with this number too, and else in those where they were
pub record AreTriedToo {S : Type 0} (number : ℕ) (old new : Transitions S) : Type 0 where
  pub now : IsTried new number
  pub kept : (n : ℕ) → IsTried old n → IsTried new n
  pub others : (n : ℕ) → IsTried new n → (n ≡ number) ⊎ IsTried old n

-- the calls are tried in each state in which they were, and in that of the product if the flag is true; else it has no row
pub record AreTriedFor {S : Type 0} (product : Product) (old new : Transitions S) (some : Bool) : Type 0 where
  pub kept : (n : ℕ) → IsTried old n → IsTried new n
  pub tried : some ≡ true → IsTried new product.0
  pub none : some ≡ false → (row : List ℕ) → ¬ IsIn product row

-- an operation has at most one outcome in a state
abbrev pub HasOneOutcome : {S : Type 0} → (Op → S → List (S × Found)) → Type 0
HasOneOutcome {S} apply = (op : Op) (s : S) → length (apply op s) ≤ 1

-- calls are tried and no more, in at most n steps
pub record TriesAtMost {S : Type 0} (steps : ℕ) (old new : Table S) (before after : ℕ) : Type 0 where
  pub tries : OnlyTries old new before after
  pub cost : after ≤ before + steps

-- for the first n transitions from this place on, in the state with this number
abbrev pub AreStaysTo : ℕ → List Transition → List ℕ → ℕ → ℕ → Type 0
AreStaysTo number transitions stays from n = (at slot : ℕ) → at < n
    → Has (get_or stays (from + at) 0) slot → slice_get transitions (from + at) ≡ Some (To number (get_or stays (from + at) 0))

-- the transitions from this place on are what the first n calls do in the state with this number
abbrev pub AreTriedTo : {S : Type 0} → (Op → S → List (S × Found)) → Table S → List PendingOp → ℕ → List Transition → ℕ → ℕ → Type 0
AreTriedTo {S} apply t calls number transitions from n = (at : ℕ) (c : PendingOp) (transition : Transition)
    → at < n → slice_get calls at ≡ Some c → slice_get transitions (from + at) ≡ Some transition
    → (s : S) × (slice_get t.states number ≡ Some s) × IsTransition t c (apply c.op s) transition

-- the place of the transitions of one state is set, and those of all others stay
pub record IsOrderWith (old new : List ℕ) (number order : ℕ) : Type 0 where
  pub told : get_or new number 0 ≡ order + 1
  pub others : (n : ℕ) → n ≢ number → get_or new n 0 ≡ get_or old n 0
