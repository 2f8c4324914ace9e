-- The effect of one more event: the last event and the open operation of a process, the current process of a thread
use Rattle.std.proofs.Common.{◌≡◌, ℕ, suc, ◌+◌, ◌≤◌, true, false, cond, Option, Some, None, is_some, List, [], ◌∷◌, ◌++◌, length, slice_get, option_map, option_and_then, refl, sym, ap, ◌∙◌, subst, append_assoc, ⊎_elim, arith}
use Rattle.std.specs.Option.{option_or}
use Rattle.std.specs.List.{cons_option}
use Rattle.std.proofs.lemmas.Bool.{cases_eq, eq-eqb, ne_eqb}
use Rattle.std.proofs.lemmas.Option.{cond_some, some_pair_parts, same_Some}
use Rattle.std.proofs.lemmas.List.{append-nil}
use Rattle.std.proofs.lemmas.List.Elements.{filter_map-append}
use Rattle.models.specs.declared.operation.Op.{Op}
use Rattle.processes.specs.MoveRule.{Move, process_of, is_invocation, is_busy}
use Rattle.processes.specs.MoveRule.Move.{Invokes, Completes, Crashes}
use Rattle.processes.proofs.Pushing.{is_busy-own, is_busy-other}
use Rattle.events.specs.declared.event.EventKind.{EventKind}
use Rattle.events.specs.declared.event.EventKind.TheVariants.{Invoke, Ok, Fail, Info}
use Rattle.events.specs.declared.event.Process.{Process}
use Rattle.events.specs.declared.event.Process.TheVariants.{Client, Nemesis}
use Rattle.events.specs.declared.event.Body.{Body}
use Rattle.events.specs.declared.event.Body.TheVariants.{Op as AnOp, Fault as AFault}
use Rattle.events.specs.declared.event.Event.{Event}
use Rattle.history.specs.WellFormed.{move_in, move_of, moves_of, is_of_process, last_event_from, last_event_of, invoked_in, invoked_at, open_of}

option_or-none : {X : Type 0} (o : Option X) → option_or o None ≡ o
option_or-none None = refl
option_or-none (Some x) = refl

option_or-assoc : {X : Type 0} (a b c : Option X) → option_or (option_or a b) c ≡ option_or a (option_or b c)
option_or-assoc None b c = refl
option_or-assoc (Some x) b c = refl

-- the event with its index, if it is of the process
abbrev entry_for : ℕ → Event → ℕ → Option (ℕ × Event)
entry_for n e p = cond (is_of_process p (move_of e)) (Some (n, e)) None

last_event_from-push : (n : ℕ) (events : List Event) (e : Event) (p : ℕ) → last_event_from n (events ++ e ∷ []) p ≡ option_or (entry_for (n + length events) e p) (last_event_from n events p)
last_event_from-push n [] e p = ap (λ k. entry_for k e p) (let q : n ≡ n + 0 = omega arith in q) ∙ sym (option_or-none (entry_for (n + 0) e p))
last_event_from-push n (x ∷ events) e p =
    ap (λ o. option_or o (entry_for n x p)) (last_event_from-push (n + 1) events e p)
    ∙ option_or-assoc (entry_for (n + 1 + length events) e p) (last_event_from (n + 1) events p) (entry_for n x p)
    ∙ ap (λ k. option_or (entry_for k e p) (last_event_from n (x ∷ events) p)) (let q : n + 1 + length events ≡ n + length (x ∷ events) = omega arith in q)

pub last_event_of-own : (events : List Event) (e : Event) (p : ℕ) → is_of_process p (move_of e) ≡ true → last_event_of (events ++ e ∷ []) p ≡ Some (length events, e)
last_event_of-own events e p own =
    last_event_from-push 0 events e p
    ∙ ap (λ b. option_or (cond b (Some (0 + length events, e)) None) (last_event_of events p)) own
    ∙ ap (λ k. Some (k, e)) (let q : 0 + length events ≡ length events = omega arith in q)

pub last_event_of-other : (events : List Event) (e : Event) (p : ℕ) → is_of_process p (move_of e) ≡ false → last_event_of (events ++ e ∷ []) p ≡ last_event_of events p
last_event_of-other events e p other =
    last_event_from-push 0 events e p ∙ ap (λ b. option_or (cond b (Some (0 + length events, e)) None) (last_event_of events p)) other

pub open_of-own : (events : List Event) (e : Event) (p : ℕ) → is_of_process p (move_of e) ≡ true → open_of (events ++ e ∷ []) p ≡ invoked_at (length events, e)
open_of-own events e p own = ap (option_and_then invoked_at) (last_event_of-own events e p own)

pub open_of-other : (events : List Event) (e : Event) (p : ℕ) → is_of_process p (move_of e) ≡ false → open_of (events ++ e ∷ []) p ≡ open_of events p
open_of-other events e p other = ap (option_and_then invoked_at) (last_event_of-other events e p other)

-- the last event stands at its index
last_from_at : (n : ℕ) (events : List Event) (p i : ℕ) (e : Event) → last_event_from n events p ≡ Some (i, e) → (k : ℕ) × (i ≡ n + k) × (slice_get events k ≡ Some e)
last_from_at n [] p i e h = cc
last_from_at n (x ∷ events) p i e h = by_later (last_from_at (n + 1) events p i e) (last_event_from (n + 1) events p) refl h
  where
    by_later : (last_event_from (n + 1) events p ≡ Some (i, e) → (k : ℕ) × (i ≡ n + 1 + k) × (slice_get events k ≡ Some e)) → (o : Option (ℕ × Event)) → last_event_from (n + 1) events p ≡ o → option_or o (entry_for n x p) ≡ Some (i, e)
        → (k : ℕ) × (i ≡ n + k) × (slice_get (x ∷ events) k ≡ Some e)
    by_later later (Some y) is q = (let r = later (is ∙ q) in (suc r.0, (let s : i ≡ n + 1 + r.0 = r.1 in omega arith), r.2))
    by_later later None is q = (let c = cond_some (is_of_process p (move_of x)) (n, x) (i, e) q in let parts = some_pair_parts n i x e (ap Some c.1) in (0, (let s : n ≡ i = parts.0 in omega arith), ap Some parts.1))

-- the invocation of an open operation stands at its index
pub open_of_at : (events : List Event) (p i : ℕ) (op : Op) → open_of events p ≡ Some (i, op) → (e : Event) × (slice_get events i ≡ Some e) × (invoked_in e.kind e.body ≡ Some op)
open_of_at events p i op h = by_last (last_event_of events p) refl h
  where
    by_invoked : (j : ℕ) (e : Event) (o : Option Op) → last_event_of events p ≡ Some (j, e) → invoked_in e.kind e.body ≡ o → option_map {U = ℕ × Op} (λ op. (j, op)) o ≡ Some (i, op) → (e : Event) × (slice_get events i ≡ Some e) × (invoked_in e.kind e.body ≡ Some op)
    by_invoked j e None is at q = cc
    by_invoked j e (Some f) is at q =
        (let parts = some_pair_parts j i f op q in let r = last_from_at 0 events p j e is in
        (e, ap (slice_get events) (let s : j ≡ 0 + r.0 = r.1 in let t : j ≡ i = parts.0 in let u : i ≡ r.0 = omega arith in u) ∙ r.2, at ∙ ap Some parts.1))

    by_last : (o : Option (ℕ × Event)) → last_event_of events p ≡ o → option_and_then invoked_at o ≡ Some (i, op) → (e : Event) × (slice_get events i ≡ Some e) × (invoked_in e.kind e.body ≡ Some op)
    by_last None is q = cc
    by_last (Some x) is q = by_invoked x.0 x.1 (invoked_in x.1.kind x.1.body) is refl q

-- the moves of the events
pub moves_of-some : (events : List Event) (e : Event) (m : Move) → move_of e ≡ Some m → moves_of (events ++ e ∷ []) ≡ moves_of events ++ m ∷ []
moves_of-some events e m h = filter_map-append move_of events (e ∷ []) ∙ ap (λ o. moves_of events ++ cons_option o []) h

pub moves_of-none : (events : List Event) (e : Event) → move_of e ≡ None → moves_of (events ++ e ∷ []) ≡ moves_of events
moves_of-none events e h = filter_map-append move_of events (e ∷ []) ∙ ap (λ o. moves_of events ++ cons_option o []) h ∙ append-nil (moves_of events)

pub moves_len : (events : List Event) → length (moves_of events) ≤ length events
moves_len [] = omega arith
moves_len (e ∷ events) = by_move (move_of e) (moves_len events)
  where
    by_move : (o : Option Move) → length (moves_of events) ≤ length events → length (cons_option o (moves_of events)) ≤ length (e ∷ events)
    by_move None h = omega arith
    by_move (Some m) h = omega arith

-- a process is busy where it has an open operation
abbrev BusyIsOpen : List Event → Type 0
BusyIsOpen events = (p : ℕ) → is_busy (moves_of events) p ≡ is_some (open_of events p)

invokes : (n : ℕ) (index : Option ℕ) (kind : EventKind) (process : Process) (body : Body) (m : Move) → move_in kind process body ≡ Some m
    → is_invocation m ≡ is_some (invoked_at (n, record { index = index; kind = kind; process = process; body = body }))
invokes n index Invoke (Client p) (AnOp op) m h = ap is_invocation (sym (same_Some (Invokes p) m h))
invokes n index Ok (Client p) (AnOp op) m h = ap is_invocation (sym (same_Some (Completes p) m h))
invokes n index Fail (Client p) (AnOp op) m h = ap is_invocation (sym (same_Some (Completes p) m h))
invokes n index Info (Client p) (AnOp op) m h = ap is_invocation (sym (same_Some (Crashes p) m h))
invokes n index kind (Client p) (AFault fault) m h = (let none : ◌≡◌ {A = Option Move} None (Some m) = h in cc)
invokes n index kind Nemesis body m h = (let none : ◌≡◌ {A = Option Move} None (Some m) = h in cc)

busy_more : (events : List Event) (e : Event) → BusyIsOpen events → BusyIsOpen (events ++ e ∷ [])
busy_more events e kept p = by_move (move_of e) refl
  where
    by_move : (o : Option Move) → move_of e ≡ o → is_busy (moves_of (events ++ e ∷ [])) p ≡ is_some (open_of (events ++ e ∷ []) p)
    by_move None is =
        ap (λ l. is_busy l p) (moves_of-none events e is) ∙ kept p ∙ sym (ap is_some (open_of-other events e p (ap (is_of_process p) is)))
    by_move (Some m) is =
        ap (λ l. is_busy l p) (moves_of-some events e m is) ∙ ⊎_elim
        (λ same. is_busy-own (moves_of events) m p same ∙ invokes (length events) e.index e.kind e.process e.body m is
        ∙ sym (ap is_some (open_of-own events e p (ap (is_of_process p) is ∙ eq-eqb p (process_of m) same))))
        (λ ne. is_busy-other (moves_of events) m p ne ∙ kept p ∙ sym (ap is_some (open_of-other events e p (ap (is_of_process p) is ∙ ne_eqb p (process_of m) ne))))
        (cases_eq p (process_of m))

busy_along : (before after : List Event) → BusyIsOpen before → BusyIsOpen (before ++ after)
busy_along before [] kept = subst BusyIsOpen (sym (append-nil before)) kept
busy_along before (e ∷ after) kept = subst BusyIsOpen (append_assoc before (e ∷ []) after) (busy_along (before ++ e ∷ []) after (busy_more before e kept))

pub busy_is_open : (events : List Event) (p : ℕ) → is_busy (moves_of events) p ≡ is_some (open_of events p)
busy_is_open events p = busy_along [] events (λ q. refl) p
