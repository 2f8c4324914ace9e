-- Tickets stand for their invocations, and can be completed
use Rattle.std.proofs.Common.{◌≡◌, ◌↔◌, ℕ, zero, suc, ◌<◌, ⊎_elim, Bool, true, false, if◌then◌else◌, nat_lt, Option, Some, None, option_map, List, [], ◌∷◌, ◌++◌, length, map, take, count_by, slice_get, slice_set, refl, sym, ap, ◌∙◌, subst, arith, true≢false}
use Rattle.std.proofs.Math.Nat.{add-mul-mod_self_left, mod-eq_of_lt}
use Rattle.std.proofs.lemmas.Bool.{ltb-true}
use Rattle.std.proofs.lemmas.Option.{same_Some, slice_get-map}
use Rattle.models.specs.declared.operation.Op.{Op}
use Rattle.models.specs.declared.finding.Found.{Found}
use Rattle.kinds.specs.declared.any_state.AnyState.{AnyState}
use Rattle.kinds.specs.Kinds.{table_of}
use Rattle.kinds.specs.AnyState.{any}
use Rattle.processes.specs.MoveRule.{current_of, is_crash_on}
use Rattle.events.specs.declared.event.Event.{Event}
use Rattle.events.specs.Tables.{IsPart}
use Rattle.history.specs.WellFormed.{moves_of, open_of, invoked_in, HasRoom, IsWellFormed}
use Rattle.history.proofs.Appending.{open_of_at}
use Rattle.test_store.specs.declared.held.Held.{Held}
use Rattle.test_store.specs.declared.outcome.Outcome.{Outcome}
use Rattle.test_store.specs.declared.outcome.Outcome.TheVariants.{Done, Refused, Lost}
use Rattle.test_store.specs.Store.{Cluster, MayServe, Serves}
use Rattle.test_store.proofs.OneServe.{SomeKind, some_kind}
use Rattle.test_store.proofs.TruthKept.{FirstStep, first_step}
use Rattle.machine.specs.declared.ticket.Ticket.{Ticket}
use Rattle.machine.specs.Trials.{Answers, invocation, completion, fresh_ticket, served_as, IsStillOpen}
use Rattle.machine.proofs.Places.{get_push, get_set, get_more}
use Rattle.machine.proofs.Answering.{answers}
use Rattle.machine.specs.Machine.{stale_from}
use Rattle.machine.specs.Tickets.{StandsFor, IsAnswered, AreTickets}

get_last : {X : Type 0} (xs : List X) (x : X) → slice_get (xs ++ x ∷ []) (length xs) ≡ Some x
get_last [] x = refl
get_last (z ∷ xs) x = get_last xs x

get_take : {X : Type 0} (n : ℕ) (xs : List X) (k : ℕ) (x : X) → k < n → slice_get xs k ≡ Some x → slice_get (take n xs) k ≡ Some x
get_take n [] k x l h = cc
get_take zero (z ∷ xs) k x l h = absurd (omega arith)
get_take (suc n) (z ∷ xs) zero x l h = h
get_take (suc n) (z ∷ xs) (suc k) x l h = get_take n xs k x (omega arith) h

no_get : {X : Type 0} (k : ℕ) (x : X) → ◌≡◌ {A = Option X} (slice_get [] k) (Some x) → ⊥
no_get k x h = cc

stands_more : (c : ℕ) (events more : List Event) (t : Ticket) → StandsFor c events t → StandsFor c (events ++ more) t
stands_more c events more t s = record { event = get_more events more t.index (invocation t.process t.op) s.event; thread = s.thread; below = s.below }

pub none_yet : (c : ℕ) → AreTickets c [] []
none_yet c = record {
  stands = λ k t at. absurd (no_get k t at);
  parts = λ k t at. absurd (no_get k t at);
  answered = λ k t at. absurd (no_get k t at);
}

pub more_events : (c : ℕ) (events more : List Event) (tickets : List Ticket) → AreTickets c events tickets → AreTickets c (events ++ more) tickets
more_events c events more tickets a = record {
  stands = λ k t at fresh. stands_more c events more t (a.stands k t at fresh);
  parts = a.parts;
  answered = a.answered;
}

pub drawn : (c : ℕ) (events : List Event) (tickets : List Ticket) (thread : ℕ) (op : Op) → thread < c → IsPart op.name op.part → AreTickets c events tickets
    → AreTickets c (events ++ invocation (current_of c (moves_of events) thread) op ∷ []) (tickets ++ fresh_ticket thread (current_of c (moves_of events) thread) op events ∷ [])
drawn c events tickets thread op below part a = record {
  stands = λ k t at fresh. ⊎_elim (λ was. stands_more c events (e ∷ []) t (a.stands k t was fresh)) (λ r. subst (StandsFor c (events ++ e ∷ [])) r.1 own) (get_push tickets ticket k t at);
  parts = λ k t at. ⊎_elim (a.parts k t) (λ r. subst (λ (u : Ticket). IsPart u.op.name u.op.part) r.1 part) (get_push tickets ticket k t at);
  answered = λ k t at. ⊎_elim (a.answered k t) (λ r. subst (λ (u : Ticket). IsAnswered u.op u.outcome) r.1 tt) (get_push tickets ticket k t at);
}
  where
    process : ℕ
    process = current_of c (moves_of events) thread

    e : Event
    e = invocation process op

    ticket : Ticket
    ticket = fresh_ticket thread process op events

    own : StandsFor c (events ++ e ∷ []) ticket
    own = record {
      event = get_last events e;
      thread = add-mul-mod_self_left thread c (count_by (is_crash_on c thread) (moves_of events)) ∙ mod-eq_of_lt below;
      below = below;
    }

-- the value that the store found answers the operation
found_answers : (s : Cluster) (e : ℕ) (op : Op) (found : Found) (row : List Held) → Serves s e op found row → Answers op.name op.part found
found_answers s e op found row t =
    (let k : SomeKind t.held.state = some_kind t.held.state in
    let came : AnyState × Found = (t.state, found) in
    let o : FirstStep (any k.0) ((table_of k.0).apply op k.1) came = first_step (any k.0) ((table_of k.0).apply op k.1) came (t.step k.0 k.1 k.2) in
    answers k.0 k.1 o.next op found o.listed)

pub serve_answers : (old new : Cluster) (e : ℕ) (op : Op) (outcome : Outcome) → MayServe old e op outcome new → IsAnswered op (Some outcome)
serve_answers old new e op (Done found) may = found_answers old e op found may.0 may.1
serve_answers old new e op Refused may = tt
serve_answers old new e op Lost may = tt

pub served : (c : ℕ) (events : List Event) (tickets : List Ticket) (number : ℕ) (t : Ticket) (outcome : Outcome) → slice_get tickets number ≡ Some t → IsAnswered t.op (Some outcome) → AreTickets c events tickets
    → AreTickets c events (slice_set tickets number (served_as outcome t))
served c events tickets number t outcome at answer a = record {
  stands = λ k u also fresh. ⊎_elim
      (λ r. (let s : StandsFor c events t = a.stands number t at (ap (λ (w : Ticket). w.stale) r.1 ∙ fresh) in
      subst (StandsFor c events) r.1 (record { event = s.event; thread = s.thread; below = s.below })))
      (λ r. a.stands k u r.1 fresh)
      (get_set tickets number (served_as outcome t) k u also);
  parts = λ k u also. ⊎_elim
      (λ r. subst (λ (w : Ticket). IsPart w.op.name w.op.part) r.1 (a.parts number t at))
      (λ r. a.parts k u r.1)
      (get_set tickets number (served_as outcome t) k u also);
  answered = λ k u also. ⊎_elim
      (λ r. subst (λ (w : Ticket). IsAnswered w.op w.outcome) r.1 answer)
      (λ r. a.answered k u r.1)
      (get_set tickets number (served_as outcome t) k u also);
}

-- a rewind
pub cut : (c : ℕ) (events : List Event) (tickets : List Ticket) (n : ℕ) → AreTickets c events tickets → AreTickets c (take n events) (map (stale_from n) tickets)
cut c events tickets n a = record {
  stands = λ k t at fresh. (let w = was k t at in stale_stands w.0 (a.stands k w.0 w.1) t w.2 fresh);
  parts = λ k t at. (let w = was k t at in same_part w.0 (nat_lt w.0.index n) t w.2 (a.parts k w.0 w.1));
  answered = λ k t at. (let w = was k t at in same_answer w.0 (nat_lt w.0.index n) t w.2 (a.answered k w.0 w.1));
}
  where
    mapped : (o : Option Ticket) (t : Ticket) → option_map (stale_from n) o ≡ Some t → (u : Ticket) × (o ≡ Some u) × (stale_from n u ≡ t)
    mapped None t h = cc
    mapped (Some u) t h = (u, refl, same_Some (stale_from n u) t h)

    was : (k : ℕ) (t : Ticket) → slice_get (map (stale_from n) tickets) k ≡ Some t → (u : Ticket) × (slice_get tickets k ≡ Some u) × (stale_from n u ≡ t)
    was k t at = mapped (slice_get tickets k) t (sym (slice_get-map (stale_from n) tickets k) ∙ at)

    same_part : (u : Ticket) (b : Bool) (t : Ticket) → (if b then u else record u { stale = true }) ≡ t → IsPart u.op.name u.op.part → IsPart t.op.name t.op.part
    same_part u true t is p = subst (λ (w : Ticket). IsPart w.op.name w.op.part) is p
    same_part u false t is p = subst (λ (w : Ticket). IsPart w.op.name w.op.part) is p

    same_answer : (u : Ticket) (b : Bool) (t : Ticket) → (if b then u else record u { stale = true }) ≡ t → IsAnswered u.op u.outcome → IsAnswered t.op t.outcome
    same_answer u true t is p = subst (λ (w : Ticket). IsAnswered w.op w.outcome) is p
    same_answer u false t is p = subst (λ (w : Ticket). IsAnswered w.op w.outcome) is p

    by_test : (u : Ticket) (b : Bool) → nat_lt u.index n ≡ b → (u.stale ≡ false → StandsFor c events u) → (t : Ticket) → (if b then u else record u { stale = true }) ≡ t → t.stale ≡ false → StandsFor c (take n events) t
    by_test u true e s t is fresh = subst (StandsFor c (take n events)) is
        (let now : StandsFor c events u = s (ap (λ (w : Ticket). w.stale) is ∙ fresh) in
        record { event = get_take n events u.index (invocation u.process u.op) (ltb-true u.index n e) now.event; thread = now.thread; below = now.below })
    by_test u false e s t is fresh = absurd (true≢false (ap (λ (w : Ticket). w.stale) is ∙ fresh))

    stale_stands : (u : Ticket) → (u.stale ≡ false → StandsFor c events u) → (t : Ticket) → stale_from n u ≡ t → t.stale ≡ false → StandsFor c (take n events) t
    stale_stands u s t is fresh = by_test u (nat_lt u.index n) refl s t is fresh

-- where its process has an open operation of its index, it is still open
pub still_open : (c : ℕ) (events : List Event) (t : Ticket) → StandsFor c events t → IsStillOpen events t ↔ (option_map (λ (x : ℕ × Op). x.0) (open_of events t.process) ≡ Some t.index)
still_open c events t s = ((λ is. ap (option_map (λ (x : ℕ × Op). x.0)) is), λ h. by_open (open_of events t.process) refl h)
  where
    by_open : (o : Option (ℕ × Op)) → open_of events t.process ≡ o → option_map (λ (x : ℕ × Op). x.0) o ≡ Some t.index → open_of events t.process ≡ Some (t.index, t.op)
    by_open None is q = cc
    by_open (Some x) is q =
        (let here : x.0 ≡ t.index = same_Some x.0 t.index q in
        let at : open_of events t.process ≡ Some (t.index, x.1) = is ∙ ap (λ k. Some (k, x.1)) here in
        let found = open_of_at events t.process t.index x.1 at in
        let event : found.0 ≡ invocation t.process t.op = same_Some found.0 (invocation t.process t.op) (sym found.1 ∙ s.event) in
        let op : x.1 ≡ t.op = same_Some x.1 t.op (sym found.2 ∙ ap (λ (e : Event). invoked_in e.kind e.body) event) in
        at ∙ ap (λ f. Some (t.index, f)) op)

-- it can be completed as its serve came out
pub may_complete : (c : ℕ) (events : List Event) (t : Ticket) (outcome : Outcome) → IsStillOpen events t → HasRoom events → IsPart t.op.name t.op.part → IsAnswered t.op (Some outcome) → IsWellFormed c events (completion t.process t.op outcome)
may_complete c events t (Done found) open_ room part answer = (answer.0, tt, room, (t.index, t.op, open_, (refl, refl, answer.1)))
may_complete c events t Refused open_ room part answer = (part, tt, room, (t.index, t.op, open_, (refl, refl, refl)))
may_complete c events t Lost open_ room part answer = (part, tt, room, (t.index, t.op, open_, (refl, refl, refl)))
