-- The open operation of a process, by the row of its thread and the event at its index
use Rattle.std.proofs.Common.{◌≡◌, ◌≢◌, ℕ, ◌<◌, Option, Some, None, List, length, get_or, slice_get, option_map, refl, sym, ap, ◌∙◌}
use Rattle.std.proofs.lemmas.Option.{same_Some, get_or_from_slice_get, slice_get_within}
use Rattle.models.specs.declared.operation.Op.{Op}
use Rattle.events.specs.declared.event.EventKind.{EventKind}
use Rattle.events.specs.declared.event.EventKind.TheVariants.{Invoke, Ok, Fail, Info}
use Rattle.events.specs.declared.event.Fault.{Fault}
use Rattle.events.specs.declared.event.Body.{Body}
use Rattle.events.specs.declared.event.Body.TheVariants.{Op as AnOp, Fault as AFault}
use Rattle.events.specs.declared.event.Event.{Event}
use Rattle.processes.specs.MoveRule.{current_of, thread_of, FollowMoveRule}
use Rattle.history.specs.WellFormed.{invoked_in, moves_of, open_of, open_index}
use Rattle.history.proofs.Appending.{open_of_at}
use Rattle.history.proofs.Keeping.{none_open}

invoked_body : (kind : EventKind) (body : Body) (op : Op) → invoked_in kind body ≡ Some op → body ≡ AnOp op
invoked_body Invoke (AnOp f) op h = ap AnOp (same_Some f op h)
invoked_body Invoke (AFault fault) op h = cc
invoked_body Ok body op h = cc
invoked_body Fail body op h = cc
invoked_body Info body op h = cc

-- the open operation of a process whose index is known
pub open_at_index : (events : List Event) (p i : ℕ) → option_map (λ (x : ℕ × Op). x.0) (open_of events p) ≡ Some i → (op : Op) × (open_of events p ≡ Some (i, op)) × (e : Event) × (slice_get events i ≡ Some e) × (e.body ≡ AnOp op)
open_at_index events p i h = by_open (open_of events p) refl h
  where
    by_open : (o : Option (ℕ × Op)) → open_of events p ≡ o → option_map (λ (x : ℕ × Op). x.0) o ≡ Some i → (op : Op) × (open_of events p ≡ Some (i, op)) × (e : Event) × (slice_get events i ≡ Some e) × (e.body ≡ AnOp op)
    by_open None is q = cc
    by_open (Some x) is q =
        (let here : x.0 ≡ i = same_Some x.0 i q in let at : open_of events p ≡ Some (i, x.1) = is ∙ ap (λ k. Some (k, x.1)) here in
        let found = open_of_at events p i x.1 at in
        (x.1, at, found.0, found.1, invoked_body found.0.kind found.0.body x.1 found.2))

-- the index of a thread's open operation is that of its current process
pub index_of_current : (c : ℕ) (events : List Event) (p : ℕ) (o : Option ℕ) → current_of c (moves_of events) (thread_of c p) ≡ p → o ≡ open_index c events (thread_of c p) → option_map (λ (x : ℕ × Op). x.0) (open_of events p) ≡ o
index_of_current c events p o current is = sym (is ∙ ap (λ q. option_map (λ (x : ℕ × Op). x.0) (open_of events q)) current)

pub within : (events : List Event) (p i : ℕ) → option_map (λ (x : ℕ × Op). x.0) (open_of events p) ≡ Some i → i < length events
within events p i h = (let f = open_at_index events p i h in slice_get_within events i f.2 f.3)

-- the event at the index is of that operation, and of no fault
its_body : (events : List Event) (p i : ℕ) (d : Event) → option_map (λ (x : ℕ × Op). x.0) (open_of events p) ≡ Some i → (op : Op) × (open_of events p ≡ Some (i, op)) × ((get_or events i d).body ≡ AnOp op)
its_body events p i d h =
    (let f = open_at_index events p i h in (f.0, f.1, ap (λ (e : Event). e.body) (get_or_from_slice_get events i f.2 d f.3) ∙ f.4))

pub its_operation : (events : List Event) (p i : ℕ) (d : Event) (op : Op) → option_map (λ (x : ℕ × Op). x.0) (open_of events p) ≡ Some i → (get_or events i d).body ≡ AnOp op → Some op ≡ option_map (λ (x : ℕ × Op). x.1) (open_of events p)
its_operation events p i d op h is =
    (let found = its_body events p i d h in let both : AnOp op ≡ AnOp found.0 = sym is ∙ found.2 in let same : op ≡ found.0 = cc in
    ap Some same ∙ sym (ap (option_map (λ (x : ℕ × Op). x.1)) found.1))

pub no_fault : (events : List Event) (p i : ℕ) (d : Event) (fault : Fault) → option_map (λ (x : ℕ × Op). x.0) (open_of events p) ≡ Some i → (get_or events i d).body ≡ AFault fault → ⊥
no_fault events p i d fault h is = (let found = its_body events p i d h in let both : AFault fault ≡ AnOp found.0 = sym is ∙ found.2 in cc)

-- a process that is not current has none
pub not_current : (c : ℕ) (events : List Event) (p : ℕ) → FollowMoveRule c (moves_of events) → current_of c (moves_of events) (thread_of c p) ≢ p → None ≡ option_map (λ (x : ℕ × Op). x.1) (open_of events p)
not_current c events p rule ne = sym (ap (option_map (λ (x : ℕ × Op). x.1)) (none_open c events p rule (λ is. ne (sym is))))
