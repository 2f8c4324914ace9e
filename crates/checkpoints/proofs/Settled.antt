-- a key that is dead or over stays so, and has no other status
use Rattle.std.proofs.Common.{◌≡◌, ◌⊎◌, inl, inr, ℕ, [], ◌∷◌, ◌++◌, refl}
use Rattle.kinds.specs.Kinds.{object_of}
use Rattle.events.specs.declared.event.Event.{Event}
use Rattle.events.specs.Events.{entries_of}
use Rattle.events.specs.ProcessRule.{IsHistory}
use Rattle.linspec.specs.declared.verdict.KeyStatus.{KeyStatus}
use Rattle.linspec.specs.declared.verdict.KeyStatus.TheVariants.{Alive, Dead, Over}
use Rattle.linspec.specs.Counts.{CountsMoreThan}
use Rattle.linspec.proofs.OneAnswer.{one_status}
use Rattle.linspec.specs.KeyHistory.{KeyHistory, IsStatusOf, with_pushed}
use Rattle.checkpoints.proofs.Judging.{dead_after, over_after}

pub dead_settled : (h : KeyHistory) (index i : ℕ) (event : Event) → IsHistory (h.events ++ (index, event) ∷ []) → IsStatusOf h (Dead i) → IsStatusOf (with_pushed index event h) (Dead i)
dead_settled h index i event history dead = dead_after h.kind h.budget h.events (index, event) history i dead

pub over_settled : (h : KeyHistory) (index i : ℕ) (event : Event) → IsHistory (h.events ++ (index, event) ∷ []) → IsStatusOf h (Over i) → IsStatusOf (with_pushed index event h) (Over i)
over_settled h index i event history over = over_after h.kind h.budget h.events (index, event) history i over

pub settled : (h : KeyHistory) (index : ℕ) (event : Event) (s t : KeyStatus) → IsHistory (h.events ++ (index, event) ∷ []) → IsStatusOf h s → IsStatusOf (with_pushed index event h) t → (s ≡ Alive) ⊎ (t ≡ s)
settled h index event Alive t history is then = inl refl
settled h index event (Dead i) t history is then = inr (one_status (CountsMoreThan h.kind) (object_of h.kind) h.budget (entries_of (h.events ++ (index, event) ∷ [])) t (Dead i) then (dead_settled h index i event history is))
settled h index event (Over i) t history is then = inr (one_status (CountsMoreThan h.kind) (object_of h.kind) h.budget (entries_of (h.events ++ (index, event) ∷ [])) t (Over i) then (over_settled h index i event history is))
