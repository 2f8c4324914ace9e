-- Only current processes have open operations
use Rattle.std.proofs.Common.{◌≡◌, ℕ, Option, Some, option_map, List, [], ◌∷◌, ◌++◌, refl, sym, ap, ◌∙◌, subst, append_assoc}
use Rattle.std.proofs.lemmas.List.{append-nil}
use Rattle.models.specs.declared.operation.Op.{Op}
use Rattle.processes.specs.MoveRule.{thread_of, current_of, FollowMoveRule}
use Rattle.processes.proofs.Following.{follow-nil, follow-push}
use Rattle.events.specs.declared.event.EventKind.{EventKind}
use Rattle.events.specs.declared.event.EventKind.TheVariants.{Info}
use Rattle.events.specs.declared.event.Process.{Process}
use Rattle.events.specs.declared.event.Process.TheVariants.{Client, Nemesis}
use Rattle.events.specs.declared.event.Body.{Body}
use Rattle.events.specs.declared.event.Body.TheVariants.{Op as AnOp, Fault as AFault}
use Rattle.events.specs.declared.event.Event.{Event}
use Rattle.history.specs.WellFormed.{move_by, moves_of, open_of, open_index, IsWellFormed, IsHistoryOf}
use Rattle.history.proofs.Appending.{moves_of-some, moves_of-none}
use Rattle.history.proofs.Keeping.{open_is_current, may_move}
use Rattle.machine.specs.declared.ticket.Ticket.{Ticket}
use Rattle.machine.specs.Trials.{IsStillOpen}
use Rattle.machine.specs.Tickets.{StandsFor}

one_more : (c : ℕ) (events : List Event) (index : Option ℕ) (kind : EventKind) (process : Process) (body : Body) → FollowMoveRule c (moves_of events)
    → IsWellFormed c events (record { index = index; kind = kind; process = process; body = body }) → FollowMoveRule c (moves_of (events ++ record { index = index; kind = kind; process = process; body = body } ∷ []))
one_more c events index kind (Client p) (AnOp op) rule well =
    subst (FollowMoveRule c) (sym (moves_of-some events (record { index = index; kind = kind; process = Client p; body = AnOp op }) (move_by kind p) refl))
    (follow-push c (moves_of events) (move_by kind p) rule (may_move c events index kind p op well))
one_more c events index Info Nemesis (AFault fault) rule well =
    subst (FollowMoveRule c) (sym (moves_of-none events (record { index = index; kind = Info; process = Nemesis; body = AFault fault }) refl)) rule
one_more c events index _ _ _ rule well = absurd well.0

all_more : (c : ℕ) (before events : List Event) → FollowMoveRule c (moves_of before) → IsHistoryOf c (before ++ events) → FollowMoveRule c (moves_of (before ++ events))
all_more c before [] rule h = subst (λ l. FollowMoveRule c (moves_of l)) (sym (append-nil before)) rule
all_more c before (e ∷ events) rule h =
    subst (λ l. FollowMoveRule c (moves_of l)) (append_assoc before (e ∷ []) events)
    (all_more c (before ++ e ∷ []) events (one_more c before e.index e.kind e.process e.body rule (h before events e refl)) (subst (IsHistoryOf c) (sym (append_assoc before (e ∷ []) events)) h))

follows : (c : ℕ) (events : List Event) → IsHistoryOf c events → FollowMoveRule c (moves_of events)
follows c events h = all_more c [] events (follow-nil c) h

-- a ticket that is still open is so by index too
pub by_index : (c : ℕ) (events : List Event) (t : Ticket) → IsHistoryOf c events → StandsFor c events t → IsStillOpen events t
    → (current_of c (moves_of events) t.thread ≡ t.process) × (open_index c events t.thread ≡ Some t.index)
by_index c events t h s open_ =
    (let current : t.process ≡ current_of c (moves_of events) (thread_of c t.process) = open_is_current c events (follows c events h) t.process (t.index, t.op) open_ in
    let same : current_of c (moves_of events) t.thread ≡ t.process = ap (current_of c (moves_of events)) (sym s.thread) ∙ sym current in
    (same, ap (λ p. option_map (λ (x : ℕ × Op). x.0) (open_of events p)) same ∙ ap (option_map (λ (x : ℕ × Op). x.0)) open_))
