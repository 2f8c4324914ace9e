-- A well-formed event keeps what a history keeps: its threads, and what each has open
use Rattle.std.proofs.Common.{◌≡◌, ◌≢◌, ℕ, ◌+◌, ◌*◌, ◌^◌, ◌<◌, ◌≤◌, Option, Some, None, is_some, List, [], ◌∷◌, ◌++◌, length, count_by, option_map, false, refl, sym, ap, ◌∙◌, arith}
use Rattle.std.proofs.lemmas.Bool.{eq-eqb, ne_eqb}
use Rattle.std.proofs.lemmas.List.Sums.{count_by-le-length}
use Rattle.std.proofs.Math.Nat.{add-mod_right, mod-lt, mul-le-mul_left}
use Rattle.models.specs.declared.operation.Op.{Op}
use Rattle.processes.specs.MoveRule.{process_of, thread_of, is_crash_on, current_of, IsCurrent, MayMove, FollowMoveRule}
use Rattle.processes.specs.MoveRule.Move.{Crashes}
use Rattle.processes.proofs.Pushing.{current_of-same, current_of-crashed, thread_of_current}
use Rattle.processes.proofs.Following.{busy_is_current}
use Rattle.events.specs.declared.event.EventKind.{EventKind}
use Rattle.events.specs.declared.event.EventKind.TheVariants.{Invoke, Ok, Fail, Info}
use Rattle.events.specs.declared.event.Process.{Process}
use Rattle.events.specs.declared.event.Process.TheVariants.{Client, Nemesis}
use Rattle.events.specs.declared.event.Body.{Body}
use Rattle.events.specs.declared.event.Body.TheVariants.{Op as AnOp, Fault as AFault}
use Rattle.events.specs.declared.event.Event.{Event}
use Rattle.history.specs.WellFormed.{move_by, moves_of, invoked_at, open_of, open_index, IsWellFormed}
use Rattle.history.specs.HistoryInvariant.{open_after, HasNext}
use Rattle.history.proofs.Appending.{open_of-own, open_of-other, moves_of-some, moves_of-none, moves_len, busy_is_open}

abbrev pub by_client : Option ℕ → EventKind → ℕ → Op → Event
by_client index kind p op = record { index = index; kind = kind; process = Client p; body = AnOp op }

abbrev pub by_nemesis : Option ℕ → Body → Event
by_nemesis index body = record { index = index; kind = Info; process = Nemesis; body = body }

-- only current processes have open operations
pub open_is_current : (c : ℕ) (events : List Event) → FollowMoveRule c (moves_of events) → (p : ℕ) (x : ℕ × Op) → open_of events p ≡ Some x → IsCurrent c (moves_of events) p
open_is_current c events rule p x h = busy_is_current c (moves_of events) rule p (busy_is_open events p ∙ ap is_some h)

pub none_open : (c : ℕ) (events : List Event) (p : ℕ) → FollowMoveRule c (moves_of events) → ¬ IsCurrent c (moves_of events) p → open_of events p ≡ None
none_open c events p rule ne = by_cases (open_of events p) refl
  where
    by_cases : (o : Option (ℕ × Op)) → open_of events p ≡ o → o ≡ None
    by_cases None is = refl
    by_cases (Some x) is = absurd (ne (open_is_current c events rule p x is))

-- the move of a well-formed event may come
pub may_move : (c : ℕ) (events : List Event) (index : Option ℕ) (kind : EventKind) (p : ℕ) (op : Op) → IsWellFormed c events (by_client index kind p op) → MayMove c (moves_of events) (move_by kind p)
may_move c events index Invoke p op well = well.3
may_move c events index Ok p op well = busy_is_open events p ∙ ap is_some well.3.2
may_move c events index Fail p op well = busy_is_open events p ∙ ap is_some well.3.2
may_move c events index Info p op well = busy_is_open events p ∙ ap is_some well.3.2

client_is_current : (c : ℕ) (events : List Event) (index : Option ℕ) (kind : EventKind) (p : ℕ) (op : Op) → FollowMoveRule c (moves_of events) → IsWellFormed c events (by_client index kind p op) → IsCurrent c (moves_of events) p
client_is_current c events index Invoke p op rule well = well.3.0
client_is_current c events index Ok p op rule well = open_is_current c events rule p (well.3.0, well.3.1) well.3.2
client_is_current c events index Fail p op rule well = open_is_current c events rule p (well.3.0, well.3.1) well.3.2
client_is_current c events index Info p op rule well = open_is_current c events rule p (well.3.0, well.3.1) well.3.2

-- a current process is far below 2^32
client_has_next : (c : ℕ) (events : List Event) (index : Option ℕ) (kind : EventKind) (p : ℕ) (op : Op) → 0 < c → c ≤ 64 → length events ≤ 2 ^ 20 → FollowMoveRule c (moves_of events) → IsWellFormed c events (by_client index kind p op) → p + 64 < 2 ^ 32
client_has_next c events index kind p op pos most few rule well =
    (let t : ℕ = thread_of c p in
    let below : thread_of c p < c = mod-lt p pos in
    let is : p ≡ current_of c (moves_of events) (thread_of c p) = client_is_current c events index kind p op rule well in
    let crashes : count_by (is_crash_on c (thread_of c p)) (moves_of events) ≤ length (moves_of events) = count_by-le-length (is_crash_on c (thread_of c p)) (moves_of events) in
    let moves : length (moves_of events) ≤ length events = moves_len events in
    let all : count_by (is_crash_on c (thread_of c p)) (moves_of events) ≤ 2 ^ 20 = omega arith in
    let product : c * count_by (is_crash_on c (thread_of c p)) (moves_of events) ≤ c * 2 ^ 20 = mul-le-mul_left c all in
    omega arith)

pub has_next : (c : ℕ) (events : List Event) (e : Event) → 0 < c → c ≤ 64 → length events ≤ 2 ^ 20 → FollowMoveRule c (moves_of events) → IsWellFormed c events e → HasNext e.process
has_next c events e pos most few rule well = by_event e.index e.kind e.process e.body well
  where
    by_event : (index : Option ℕ) (kind : EventKind) (process : Process) (body : Body) → IsWellFormed c events (record { index = index; kind = kind; process = process; body = body }) → HasNext process
    by_event index kind (Client p) (AnOp op) w = client_has_next c events index kind p op pos most few rule w
    by_event index Info Nemesis (AFault fault) w = tt
    by_event index _ _ _ w = absurd w.0

abbrev at_of : Option (ℕ × Op) → Option ℕ
at_of o = option_map (λ (x : ℕ × Op). x.0) o

process_of_move : (kind : EventKind) (p : ℕ) → process_of (move_by kind p) ≡ p
process_of_move Invoke p = refl
process_of_move Ok p = refl
process_of_move Fail p = refl
process_of_move Info p = refl

-- the open operation of the event's own thread, if the process stays current
stays_own : (c : ℕ) (events : List Event) (index : Option ℕ) (kind : EventKind) (p : ℕ) (op : Op) → IsCurrent c (moves_of events) p → is_crash_on c (thread_of c p) (move_by kind p) ≡ false
    → open_index c (events ++ by_client index kind p op ∷ []) (thread_of c p) ≡ at_of (invoked_at (length events, by_client index kind p op))
stays_own c events index kind p op current here =
    ap (λ q. at_of (open_of (events ++ e ∷ []) q)) at ∙ ap at_of (open_of-own events e p (eq-eqb p (process_of (move_by kind p)) (sym (process_of_move kind p))))
  where
    e : Event
    e = by_client index kind p op

    at : current_of c (moves_of (events ++ e ∷ [])) (thread_of c p) ≡ p
    at = ap (λ l. current_of c l (thread_of c p)) (moves_of-some events e (move_by kind p) refl) ∙ current_of-same c (thread_of c p) (moves_of events) (move_by kind p) here ∙ sym current

-- and if it crashes
crashed_own : (c : ℕ) (events : List Event) (index : Option ℕ) (p : ℕ) (op : Op) → 0 < c → FollowMoveRule c (moves_of events) → IsCurrent c (moves_of events) p
    → open_index c (events ++ by_client index Info p op ∷ []) (thread_of c p) ≡ None
crashed_own c events index p op pos rule current =
    ap (λ q. at_of (open_of (events ++ e ∷ []) q)) at ∙ ap at_of (open_of-other events e (p + c) (ne_eqb (p + c) p (λ q. omega arith)) ∙ idle)
  where
    e : Event
    e = by_client index Info p op

    at : current_of c (moves_of (events ++ e ∷ [])) (thread_of c p) ≡ p + c
    at = ap (λ l. current_of c l (thread_of c p)) (moves_of-some events e (Crashes p) refl)
        ∙ current_of-crashed c (thread_of c p) (moves_of events) (Crashes p) (eq-eqb (thread_of c p) (thread_of c p) refl) ∙ ap (λ k. k + c) (sym current)

    idle : open_of events (p + c) ≡ None
    idle = none_open c events (p + c) rule (λ is. (let q : p + c ≡ p = is ∙ ap (current_of c (moves_of events)) (add-mod_right p c) ∙ sym current in omega arith))

pub own_open : (c : ℕ) (events : List Event) (index : Option ℕ) (kind : EventKind) (p : ℕ) (op : Op) → 0 < c → FollowMoveRule c (moves_of events) → IsWellFormed c events (by_client index kind p op)
    → open_index c (events ++ by_client index kind p op ∷ []) (thread_of c p) ≡ open_after (length events) kind
own_open c events index Invoke p op pos rule well = stays_own c events index Invoke p op (client_is_current c events index Invoke p op rule well) refl
own_open c events index Ok p op pos rule well = stays_own c events index Ok p op (client_is_current c events index Ok p op rule well) refl
own_open c events index Fail p op pos rule well = stays_own c events index Fail p op (client_is_current c events index Fail p op rule well) refl
own_open c events index Info p op pos rule well = crashed_own c events index p op pos rule (client_is_current c events index Info p op rule well)

elsewhere : (c t : ℕ) (kind : EventKind) (p : ℕ) → thread_of c p ≢ t → is_crash_on c t (move_by kind p) ≡ false
elsewhere c t Invoke p ne = refl
elsewhere c t Ok p ne = refl
elsewhere c t Fail p ne = refl
elsewhere c t Info p ne = ne_eqb (thread_of c p) t ne

-- the open operations of the other threads
pub other_open : (c : ℕ) (events : List Event) (index : Option ℕ) (kind : EventKind) (p : ℕ) (op : Op) (t : ℕ) → t < c → thread_of c p ≢ t → open_index c (events ++ by_client index kind p op ∷ []) t ≡ open_index c events t
other_open c events index kind p op t below ne =
    ap (λ q. at_of (open_of (events ++ e ∷ []) q)) at
    ∙ ap at_of (open_of-other events e (current_of c (moves_of events) t) (ne_eqb (current_of c (moves_of events) t) (process_of (move_by kind p))
    (λ q. ne (ap (thread_of c) (sym (q ∙ process_of_move kind p)) ∙ thread_of_current c t (moves_of events) below))))
  where
    e : Event
    e = by_client index kind p op

    at : current_of c (moves_of (events ++ e ∷ [])) t ≡ current_of c (moves_of events) t
    at = ap (λ l. current_of c l t) (moves_of-some events e (move_by kind p) refl) ∙ current_of-same c t (moves_of events) (move_by kind p) (elsewhere c t kind p ne)

pub nemesis_open : (c : ℕ) (events : List Event) (index : Option ℕ) (body : Body) (t : ℕ) → open_index c (events ++ by_nemesis index body ∷ []) t ≡ open_index c events t
nemesis_open c events index body t =
    ap (λ l. at_of (open_of (events ++ by_nemesis index body ∷ []) (current_of c l t))) (moves_of-none events (by_nemesis index body) refl)
    ∙ ap at_of (open_of-other events (by_nemesis index body) (current_of c (moves_of events) t) refl)
