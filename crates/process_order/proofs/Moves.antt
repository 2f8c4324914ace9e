-- The invocations of a process by the process rule: none comes where it has an open operation, and none after a crash
use Rattle.std.proofs.Common.{◌≡◌, ℕ, zero, suc, ◌+◌, ◌<◌, Option, Some, None, is_some, List, [], ◌∷◌, ◌++◌, length, refl, sym, ap, ◌∙◌, subst, append_assoc, arith}
use Rattle.std.proofs.lemmas.Bool.{true≢false}
use Rattle.std.proofs.lemmas.List.{append-nil}
use Rattle.std.proofs.lemmas.List.Elements.{filter_map-append}
use Rattle.models.specs.declared.operation.Op.{Op}
use Rattle.processes.specs.MoveRule.{Move, MayMove, FollowMoveRule}
use Rattle.processes.specs.MoveRule.Move.{Invokes, Crashes}
use Rattle.processes.proofs.Following.{follow-nil, follow-push}
use Rattle.processes.proofs.Refused.{stays_away}
use Rattle.events.specs.declared.event.EventKind.{EventKind}
use Rattle.events.specs.declared.event.EventKind.TheVariants.{Invoke, Ok, Fail, Info}
use Rattle.events.specs.declared.event.Process.{Process}
use Rattle.events.specs.declared.event.Process.TheVariants.{Client, Nemesis}
use Rattle.events.specs.declared.event.Body.{Body}
use Rattle.events.specs.declared.event.Body.TheVariants.{Op as AnOp, Fault as AFault}
use Rattle.events.specs.declared.event.Event.{Event}
use Rattle.history.specs.WellFormed.{move_by, move_in, move_of, moves_of, open_of, IsWellFormed, IsHistoryOf}
use Rattle.history.proofs.Appending.{moves_of-some, moves_of-none, busy_is_open}
use Rattle.history.proofs.Keeping.{by_client, may_move}
use Rattle.process_order.specs.ProcessOrder.{InvokesAt}

-- an invocation of a process is an event of this client
invokes_in : (index : Option ℕ) (kind : EventKind) (process : Process) (body : Body) (p : ℕ) → move_in kind process body ≡ Some (Invokes p)
    → (op : Op) × (record { index = index; kind = kind; process = process; body = body } ≡ by_client index Invoke p op)
invokes_in index Invoke (Client q) (AnOp op) p h = (op, (let m : ◌≡◌ {A = Option Move} (Some (Invokes q)) (Some (Invokes p)) = h in let e : q ≡ p = cc in ap (λ k. by_client index Invoke k op) e))
invokes_in index Ok (Client q) (AnOp op) p h = (let m : ◌≡◌ {A = Option Move} (Some (Move.Completes q)) (Some (Invokes p)) = h in cc)
invokes_in index Fail (Client q) (AnOp op) p h = (let m : ◌≡◌ {A = Option Move} (Some (Move.Completes q)) (Some (Invokes p)) = h in cc)
invokes_in index Info (Client q) (AnOp op) p h = (let m : ◌≡◌ {A = Option Move} (Some (Crashes q)) (Some (Invokes p)) = h in cc)
invokes_in index kind (Client q) (AFault fault) p h = (let m : ◌≡◌ {A = Option Move} None (Some (Invokes p)) = h in cc)
invokes_in index kind Nemesis body p h = (let m : ◌≡◌ {A = Option Move} None (Some (Invokes p)) = h in cc)

pub invokes_client : (e : Event) (p : ℕ) → move_of e ≡ Some (Invokes p) → (op : Op) × (e ≡ by_client e.index Invoke p op)
invokes_client e p h = invokes_in e.index e.kind e.process e.body p h

-- a process with an open operation invokes none
pub busy_waits : (c : ℕ) (seen : List Event) (e : Event) (p : ℕ) (x : ℕ × Op) → move_of e ≡ Some (Invokes p) → IsWellFormed c seen e → open_of seen p ≡ Some x → ⊥
busy_waits c seen e p x invokes well opened =
    (let is = invokes_client e p invokes in
    let w : IsWellFormed c seen (by_client e.index Invoke p is.0) = subst (IsWellFormed c seen) is.1 well in
    true≢false (sym (busy_is_open seen p ∙ ap is_some opened) ∙ w.3.1))

-- the moves of a history follow the rule
one_more : (c : ℕ) (events : List Event) (index : Option ℕ) (kind : EventKind) (process : Process) (body : Body) → FollowMoveRule c (moves_of events)
    → IsWellFormed c events (record { index = index; kind = kind; process = process; body = body }) → FollowMoveRule c (moves_of (events ++ record { index = index; kind = kind; process = process; body = body } ∷ []))
one_more c events index kind (Client p) (AnOp op) rule well =
    subst (FollowMoveRule c) (sym (moves_of-some events (by_client index kind p op) (move_by kind p) refl))
    (follow-push c (moves_of events) (move_by kind p) rule (may_move c events index kind p op well))
one_more c events index Info Nemesis (AFault fault) rule well =
    subst (FollowMoveRule c) (sym (moves_of-none events (record { index = index; kind = Info; process = Nemesis; body = AFault fault }) refl)) rule
one_more c events index _ _ _ rule well = absurd well.0

all_more : (c : ℕ) (before events : List Event) → FollowMoveRule c (moves_of before) → IsHistoryOf c (before ++ events) → FollowMoveRule c (moves_of (before ++ events))
all_more c before [] rule h = subst (λ l. FollowMoveRule c (moves_of l)) (sym (append-nil before)) rule
all_more c before (e ∷ events) rule h =
    subst (λ l. FollowMoveRule c (moves_of l)) (append_assoc before (e ∷ []) events)
    (all_more c (before ++ e ∷ []) events (one_more c before e.index e.kind e.process e.body rule (h before events e refl)) (subst (IsHistoryOf c) (sym (append_assoc before (e ∷ []) events)) h))

-- a process that crashed invokes none
pub crashed_is_gone : (c : ℕ) (seen between after : List Event) (index : Option ℕ) (op : Op) (e : Event) (p : ℕ) → 0 < c → move_of e ≡ Some (Invokes p)
    → IsHistoryOf c (seen ++ by_client index Info p op ∷ (between ++ e ∷ after)) → ⊥
crashed_is_gone c seen between after index op e p pos invokes h = stays_away c p (moves_of seen) (moves_of between) pos (subst (FollowMoveRule c) moves rule) (subst (λ l. MayMove c l (Invokes p)) moves w.3)
  where
    front : List Event
    front = seen ++ by_client index Info p op ∷ between

    history : IsHistoryOf c (front ++ e ∷ after)
    history = subst (IsHistoryOf c) (sym (append_assoc seen (by_client index Info p op ∷ between) (e ∷ after))) h

    rule : FollowMoveRule c (moves_of front)
    rule = all_more c [] front (follow-nil c) (λ before rest m cut. history before (rest ++ e ∷ after) m (ap (λ l. l ++ e ∷ after) cut ∙ append_assoc before (m ∷ rest) (e ∷ after)))

    moves : moves_of front ≡ moves_of seen ++ Crashes p ∷ moves_of between
    moves = filter_map-append move_of seen (by_client index Info p op ∷ between)

    w : IsWellFormed c front (by_client e.index Invoke p (invokes_client e p invokes).0)
    w = subst (IsWellFormed c front) (invokes_client e p invokes).1 (history front after e refl)

-- a history with one invocation cut out, and with two
pub record Cut (events : List Event) (p i : ℕ) : Type 0 where
  pub before : List Event
  pub after : List Event
  pub event : Event
  pub whole : events ≡ before ++ event ∷ after
  pub place : i ≡ length before
  pub invokes : move_of event ≡ Some (Invokes p)

pub record TwoCuts (events : List Event) (p i j : ℕ) : Type 0 where
  pub before : List Event
  pub between : List Event
  pub after : List Event
  pub first : Event
  pub second : Event
  pub whole : events ≡ before ++ first ∷ (between ++ second ∷ after)
  pub place : i ≡ length before
  pub next_place : j ≡ i + 1 + length between
  pub invokes : move_of first ≡ Some (Invokes p)
  pub invokes_next : move_of second ≡ Some (Invokes p)

cut_at : (events : List Event) (p i : ℕ) → InvokesAt events p i → Cut events p i
cut_at [] p i h = (let none : ◌≡◌ {A = Option Move} None (Some (Invokes p)) = h in cc)
cut_at (e ∷ events) p zero h = record { before = []; after = events; event = e; whole = refl; place = refl; invokes = h }
cut_at (e ∷ events) p (suc i) h =
    (let r = cut_at events p i h in
    record { before = e ∷ r.before; after = r.after; event = r.event; whole = ap (λ l. e ∷ l) r.whole; place = (let q : i ≡ length r.before = r.place in omega arith); invokes = r.invokes })

pub two_cuts : (events : List Event) (p i j : ℕ) → i < j → InvokesAt events p i → InvokesAt events p j → TwoCuts events p i j
two_cuts [] p i j less h k = (let none : ◌≡◌ {A = Option Move} None (Some (Invokes p)) = h in cc)
two_cuts (e ∷ events) p i zero less h k = absurd (omega arith)
two_cuts (e ∷ events) p zero (suc j) less h k =
    (let r = cut_at events p j k in
    record {
      before = [];
      between = r.before;
      after = r.after;
      first = e;
      second = r.event;
      whole = ap (λ l. e ∷ l) r.whole;
      place = refl;
      next_place = (let q : j ≡ length r.before = r.place in omega arith);
      invokes = h;
      invokes_next = r.invokes;
    })
two_cuts (e ∷ events) p (suc i) (suc j) less h k =
    (let r = two_cuts events p i j (omega arith) h k in
    record {
      before = e ∷ r.before;
      between = r.between;
      after = r.after;
      first = r.first;
      second = r.second;
      whole = ap (λ l. e ∷ l) r.whole;
      place = (let q : i ≡ length r.before = r.place in omega arith);
      next_place = (let q : j ≡ i + 1 + length r.between = r.next_place in omega arith);
      invokes = r.invokes;
      invokes_next = r.invokes_next;
    })
