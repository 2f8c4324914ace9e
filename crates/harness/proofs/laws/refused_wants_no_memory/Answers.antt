use Rattle.std.proofs.Common.{◌≡◌, ℕ, ◌<◌, ◌≤◌, Option, None, IsSome, is_some, List, length, Err, sym, ap, ◌∙◌, subst, arith, true≢false}
use Rattle.edn.specs.declared.refusal.Refusal.{Refusal}
use Rattle.edn.specs.declared.refusal.Refusal.TheVariants.{Busy, WrongProcess, NotOpen, HistoryFull, NoSuchIndex, BadBudget, TapeFull, Idle, NotServed, AlreadyServed, Stale}
use Rattle.events.specs.declared.event.Event.{Event}
use Rattle.history.specs.WellFormed.{IsWellFormed}
use Rattle.history.specs.WellFormed as history
use Rattle.machine.specs.declared.ticket.Ticket.{Ticket}
use Rattle.machine.specs.Trials.{IsStillOpen}
use Rattle.machine.specs.declared.command.Command.{Command}
use Rattle.machine.specs.declared.command.Command.TheVariants.{Append, Rewind, SetModel, SetBudget, Verdict as Ask, Draw, Serve, Finish, Nemesis}
use Rattle.machine.specs.Machine.{Machine, most_tickets, HasTicket, open_at, ThreadMayDraw, Refuses, MayStep}
use Rattle.machine.proofs.OneGift.{no_fault}
use Rattle.machine.proofs.OneRefusal.{same_ticket}
use Rattle.harness.specs.CoreView.{MayWantMemory}
use Rattle.harness.proofs.laws.refused_wants_no_memory.Goals as goal

not_none : {X : Type 0} (o : Option X) → IsSome o → o ≡ None → ⊥
not_none o some none = true≢false (sym some ∙ ap is_some none)

-- a fact about a ticket with the number holds for another
of_other : (P : Ticket → Type 0) (m : Machine) (number : ℕ) (t u : Ticket) → HasTicket m.tickets number t → HasTicket m.tickets number u → P t → P u
of_other P m number t u has also p = subst P (same_ticket m.tickets number t u has also) p

rewind_wants : (m : Machine) (n : ℕ) (why : Refusal) → Refuses m (Rewind n) why → MayWantMemory m (Rewind n) → ⊥
rewind_wants m n NoSuchIndex may want = (let l : length m.judged.events < n = may in let g : n ≤ length m.judged.events = want in omega arith)
rewind_wants m n why may want = may

budget_wants : (m : Machine) (key n : ℕ) (why : Refusal) → Refuses m (SetBudget key n) why → MayWantMemory m (SetBudget key n) → ⊥
budget_wants m key n BadBudget may want = may want
budget_wants m key n why may want = may

draw_wants : (m : Machine) (thread : ℕ) (why : Refusal) → Refuses m (Draw thread) why → ThreadMayDraw m thread → ⊥
draw_wants m thread WrongProcess may want = may want.0
draw_wants m thread Busy may want = not_none (open_at m thread) may.1 want.1
draw_wants m thread HistoryFull may want = may.2 want.2
draw_wants m thread TapeFull may want = (let g : most_tickets ≤ length m.tickets = may.3 in let l : length m.tickets < most_tickets = want.3 in omega arith)
draw_wants m thread why may want = may

serve_wants : (m : Machine) (number : ℕ) (why : Refusal) → Refuses m (Serve number) why → MayWantMemory m (Serve number) → ⊥
serve_wants m number Stale may want = true≢false (sym (may want.0 want.1.0) ∙ want.1.1)
serve_wants m number AlreadyServed may want =
    not_none want.0.outcome (of_other (λ t. IsSome t.outcome) m number may.0 want.0 may.1 want.1 may.2) want.2.0
serve_wants m number NotOpen may want =
    may.2.1 (of_other (λ t. IsStillOpen m.judged.events t) m number want.0 may.0 want.1 may.1 want.2.1)
serve_wants m number why may want = may

finish_wants : (m : Machine) (number : ℕ) (why : Refusal) → Refuses m (Finish number) why → MayWantMemory m (Finish number) → ⊥
finish_wants m number Stale may want = true≢false (sym (may want.0.0 want.0.1.0) ∙ want.0.1.1)
finish_wants m number NotServed may want =
    not_none may.0.outcome (of_other (λ t. IsSome t.outcome) m number want.0.0 may.0 want.0.1 may.1 want.0.2.0) may.2
finish_wants m number HistoryFull may want = may.1 want.1
finish_wants m number NotOpen may want =
    may.0.2.1 (of_other (λ t. IsStillOpen m.judged.events t) m number want.0.0 may.0.0 want.0.1 may.0.1 want.0.2.1)
finish_wants m number why may want = may

nemesis_wants : (m : Machine) (why : Refusal) → Refuses m Nemesis why → MayWantMemory m Nemesis → ⊥
nemesis_wants m Idle may want = no_fault m may want.0.0 want.0.1 want.0.2
nemesis_wants m HistoryFull may want = may.1 want.1
nemesis_wants m why may want = may

none_wants : ((c : ℕ) (events : List Event) (e : Event) (why : Refusal) → IsWellFormed c events e → ¬ history.Refuses c events e why)
    → (old new : Machine) (command : Command) (why : Refusal) → MayStep old command (Err why) new → ¬ MayWantMemory old command
none_wants taken old new (Append event) why step want = taken old.judged.concurrency old.judged.events event why want step.0
none_wants taken old new (Rewind n) why step want = rewind_wants old n why step.0 want
none_wants taken old new (SetModel key kind) why step want = step.0
none_wants taken old new (SetBudget key n) why step want = budget_wants old key n why step.0 want
none_wants taken old new Ask why step want = want
none_wants taken old new (Draw thread) why step want = draw_wants old thread why step.0 want.0
none_wants taken old new (Serve number) why step want = serve_wants old number why step.0 want
none_wants taken old new (Finish number) why step want = finish_wants old number why step.0 want
none_wants taken old new Nemesis why step want = nemesis_wants old why step.0 want

pub returns : goal.returns
returns c = none_wants c.one_refusal.ensures.taken
