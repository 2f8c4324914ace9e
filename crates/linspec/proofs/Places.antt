-- where events are indexed by their places, the indices of their entries rise
use Rattle.std.proofs.Common.{◌≡◌, ℕ, ◌+◌, ◌≤◌, ⊎_elim, Option, Some, None, List, [], ◌∷◌, ◌++◌, refl, ap, arith}
use Rattle.std.specs.List.{Contains}
use Rattle.events.specs.declared.event.Event.{Event}
use Rattle.events.specs.Events.{OpEvent, op_event, Entry, entry_by, entries_by, last_after, entries_from, entries_of, indexed_from}
use Rattle.linspec.specs.Verdicts.{IsRising}
use Rattle.linspec.proofs.Lists.{Contains-nil, Contains-cons_cases}

-- the indices rise from n on
record RisesFrom (n : ℕ) (entries : List Entry) : Type 0 where
  from : (e : Entry) → Contains entries e → n ≤ e.index
  rising : IsRising entries

with_entry : (n : ℕ) (x : Entry) (entries : List Entry) → n ≡ x.index → RisesFrom (n + 1) entries → RisesFrom n (x ∷ entries)
with_entry n x entries is r = record {
  from = λ e h. ⊎_elim
      (λ s. (let b : x.index ≡ e.index = ap (λ (w : Entry). w.index) s in omega arith))
      (λ k. (let b : n + 1 ≤ e.index = r.from e k in omega arith))
      (Contains-cons_cases x entries e h);
  rising = ((λ e h. (let b : n + 1 ≤ e.index = r.from e h in omega arith)), r.rising);
}

with_entries : (n : ℕ) (last : ℕ → ℕ) (o : Option OpEvent) (entries : List Entry) → RisesFrom (n + 1) entries → RisesFrom n (entries_by n last o ++ entries)
with_entries n last None entries r = record { from = λ e h. (let b : n + 1 ≤ e.index = r.from e h in omega arith); rising = r.rising }
with_entries n last (Some x) entries r = with_entry n (entry_by n last x) entries refl r

from_place : (events : List Event) (n : ℕ) (last : ℕ → ℕ) → RisesFrom n (entries_from last (indexed_from n events))
from_place [] n last = record { from = λ e h. absurd (Contains-nil e h); rising = tt }
from_place (e ∷ events) n last =
    let after : ℕ → ℕ = last_after n last (op_event e) in
    with_entries n last (op_event e) (entries_from after (indexed_from (n + 1) events)) (from_place events (n + 1) after)

pub rising_places : (events : List Event) → IsRising (entries_of (indexed_from 0 events))
rising_places events = let r : RisesFrom 0 (entries_of (indexed_from 0 events)) = from_place events 0 (λ _. 0) in r.rising
