-- A command is refused for one reason at most, and one that is answered for none
use Rattle.std.proofs.Common.{◌≡◌, ℕ, zero, suc, ◌<◌, ◌≤◌, Option, None, IsSome, is_some, List, [], ◌∷◌, length, sym, ap, ◌∙◌, subst, refl, arith, true≢false}
use Rattle.std.proofs.lemmas.Option.{same_Some}
use Rattle.edn.specs.declared.refusal.Refusal.{Refusal}
use Rattle.edn.specs.declared.refusal.Refusal.TheVariants.{Busy, WrongProcess, NotOpen, HistoryFull, NoSuchIndex, BadBudget, TapeFull, Idle, NotServed, AlreadyServed, Stale}
use Rattle.history.specs.WellFormed.{HasRoom}
use Rattle.history.proofs.OneRefusal.{refusal_one, well_formed_stands}
use Rattle.machine.specs.declared.ticket.Ticket.{Ticket}
use Rattle.machine.specs.Trials.{IsStillOpen}
use Rattle.machine.specs.declared.command.Command.{Command}
use Rattle.machine.specs.declared.command.Command.TheVariants.{Append, Rewind, SetModel, SetBudget, Verdict as Ask, Draw, Serve, Finish, Nemesis}
use Rattle.machine.specs.declared.command.Reply.{Reply}
use Rattle.machine.specs.declared.command.Reply.TheVariants.{Verdict as Says, Drawn as HasDrawn, Pending as IsPending, Done as IsDone, Served, Fault as Struck}
use Rattle.linspec.specs.JudgedHistory.{IsBudget}
use Rattle.machine.specs.Machine.{Machine, most_tickets, HasTicket, HasNoTicket, HasFault, IsThread, open_at, ThreadMayDraw, Replies, Refuses}
use Rattle.machine.proofs.Firsts.{FirstFails, FailsFirst, same_why, not_refused}
use Rattle.machine.proofs.OneGift.{no_fault}

-- the tests of a command, in order; of an Append they are the history's
abbrev tests : Machine → Command → List (Type 0)
tests m (Rewind n) = (n ≤ length m.judged.events) ∷ []
tests m (SetBudget key n) = IsBudget n ∷ []
tests m (Draw thread) = IsThread m thread ∷ (open_at m thread ≡ None) ∷ HasRoom m.judged.events ∷ (length m.tickets < most_tickets) ∷ []
tests m (Serve number) =
    ((t : Ticket) × HasTicket m.tickets number t)
    ∷ ((t : Ticket) → HasTicket m.tickets number t → t.outcome ≡ None)
    ∷ ((t : Ticket) → HasTicket m.tickets number t → IsStillOpen m.judged.events t)
    ∷ []
tests m (Finish number) =
    ((t : Ticket) × HasTicket m.tickets number t)
    ∷ ((t : Ticket) → HasTicket m.tickets number t → IsSome t.outcome)
    ∷ HasRoom m.judged.events
    ∷ ((t : Ticket) → HasTicket m.tickets number t → IsStillOpen m.judged.events t)
    ∷ []
tests m Nemesis = HasFault m ∷ HasRoom m.judged.events ∷ []
tests m command = []

-- how many there are
abbrev count : Command → ℕ
count (Rewind n) = 1
count (SetBudget key n) = 1
count (Draw thread) = 4
count (Serve number) = 3
count (Finish number) = 4
count Nemesis = 2
count command = 0

-- the refusal of each
abbrev draw_why : ℕ → Refusal
draw_why zero = WrongProcess
draw_why (suc zero) = Busy
draw_why (suc (suc zero)) = HistoryFull
draw_why (suc (suc (suc n))) = TapeFull

abbrev serve_why : ℕ → Refusal
serve_why zero = Stale
serve_why (suc zero) = AlreadyServed
serve_why (suc (suc n)) = NotOpen

abbrev finish_why : ℕ → Refusal
finish_why zero = Stale
finish_why (suc zero) = NotServed
finish_why (suc (suc zero)) = HistoryFull
finish_why (suc (suc (suc n))) = NotOpen

abbrev nemesis_why : ℕ → Refusal
nemesis_why zero = Idle
nemesis_why (suc n) = HistoryFull

abbrev why_of : Command → ℕ → Refusal
why_of (SetBudget key n) i = BadBudget
why_of (Draw thread) i = draw_why i
why_of (Serve number) i = serve_why i
why_of (Finish number) i = finish_why i
why_of Nemesis i = nemesis_why i
why_of command i = NoSuchIndex

abbrev Fails : Machine → Command → Refusal → Type 0
Fails m command why = FailsFirst (tests m command) (count command) (why_of command) why

abbrev Passes : Machine → Command → Type 0
Passes m command = FirstFails (tests m command) (count command)

not_none : {X : Type 0} (o : Option X) → IsSome o → o ≡ None → ⊥
not_none o some none = true≢false (sym some ∙ ap is_some none)

pub same_ticket : (tickets : List Ticket) (number : ℕ) (t u : Ticket) → HasTicket tickets number t → HasTicket tickets number u → t ≡ u
same_ticket tickets number t u a b = same_Some t u (sym a.0 ∙ b.0)

-- a fact about a ticket with the number holds for each
of_each : (P : Ticket → Type 0) (m : Machine) (number : ℕ) (t : Ticket) → HasTicket m.tickets number t → P t → (u : Ticket) → HasTicket m.tickets number u → P u
of_each P m number t has p u also = subst P (same_ticket m.tickets number t u has also) p

no_ticket : (tickets : List Ticket) (number : ℕ) → HasNoTicket tickets number → (t : Ticket) × HasTicket tickets number t → ⊥
no_ticket tickets number none has = true≢false (sym (none has.0 has.1.0) ∙ has.1.1)

abbrev Unserved : Ticket → Type 0
Unserved t = t.outcome ≡ None

abbrev WasServed : Ticket → Type 0
WasServed t = IsSome t.outcome

abbrev StillOpenIn : Machine → Ticket → Type 0
StillOpenIn m t = IsStillOpen m.judged.events t

draw_fails : (m : Machine) (thread : ℕ) (why : Refusal) → Refuses m (Draw thread) why → Fails m (Draw thread) why
draw_fails m thread WrongProcess may = record { index = 0; below = omega arith; fails = may; is = refl }
draw_fails m thread Busy may = record { index = 1; below = omega arith; fails = (may.0, λ none. not_none (open_at m thread) may.1 none); is = refl }
draw_fails m thread HistoryFull may = record { index = 2; below = omega arith; fails = (may.0, (may.1, may.2)); is = refl }
draw_fails m thread TapeFull may = record {
  index = 3;
  below = omega arith;
  fails = (may.0, (may.1, (may.2, λ (l : length m.tickets < most_tickets). (let g : most_tickets ≤ length m.tickets = may.3 in omega arith))));
  is = refl;
}
draw_fails m thread why may = absurd may

serve_fails : (m : Machine) (number : ℕ) (why : Refusal) → Refuses m (Serve number) why → Fails m (Serve number) why
serve_fails m number Stale may = record { index = 0; below = omega arith; fails = no_ticket m.tickets number may; is = refl }
serve_fails m number AlreadyServed may = record { index = 1; below = omega arith; fails = ((may.0, may.1), λ f. not_none may.0.outcome may.2 (f may.0 may.1)); is = refl }
serve_fails m number NotOpen may = record {
  index = 2;
  below = omega arith;
  fails = ((may.0, may.1), (of_each Unserved m number may.0 may.1 may.2.0, λ f. may.2.1 (f may.0 may.1)));
  is = refl;
}
serve_fails m number why may = absurd may

finish_fails : (m : Machine) (number : ℕ) (why : Refusal) → Refuses m (Finish number) why → Fails m (Finish number) why
finish_fails m number Stale may = record { index = 0; below = omega arith; fails = no_ticket m.tickets number may; is = refl }
finish_fails m number NotServed may = record { index = 1; below = omega arith; fails = ((may.0, may.1), λ f. not_none may.0.outcome (f may.0 may.1) may.2); is = refl }
finish_fails m number HistoryFull may = record {
  index = 2;
  below = omega arith;
  fails = ((may.0.0, may.0.1), (of_each WasServed m number may.0.0 may.0.1 may.0.2, may.1));
  is = refl;
}
finish_fails m number NotOpen may = record {
  index = 3;
  below = omega arith;
  fails = ((may.0.0, may.0.1), (of_each WasServed m number may.0.0 may.0.1 may.0.2.0, (may.1, λ f. may.0.2.1 (f may.0.0 may.0.1))));
  is = refl;
}
finish_fails m number why may = absurd may

nemesis_fails : (m : Machine) (why : Refusal) → Refuses m Nemesis why → Fails m Nemesis why
nemesis_fails m Idle may = record { index = 0; below = omega arith; fails = λ has. no_fault m may has.0 has.1 has.2; is = refl }
nemesis_fails m HistoryFull may = record { index = 1; below = omega arith; fails = (may.0, may.1); is = refl }
nemesis_fails m why may = absurd may

rewind_fails : (m : Machine) (n : ℕ) (why : Refusal) → Refuses m (Rewind n) why → Fails m (Rewind n) why
rewind_fails m n NoSuchIndex may = record { index = 0; below = omega arith; fails = λ (l : n ≤ length m.judged.events). (let g : length m.judged.events < n = may in omega arith); is = refl }
rewind_fails m n why may = absurd may

budget_fails : (m : Machine) (key n : ℕ) (why : Refusal) → Refuses m (SetBudget key n) why → Fails m (SetBudget key n) why
budget_fails m key n BadBudget may = record { index = 0; below = omega arith; fails = may; is = refl }
budget_fails m key n why may = absurd may

-- one reason, where the command has the same tests
one_reason : (m : Machine) (command : Command) (why other : Refusal) → Fails m command why → Fails m command other → why ≡ other
one_reason m command why other a b = same_why (tests m command) (count command) (why_of command) why other a b

pub one_refusal : (m : Machine) (command : Command) (why other : Refusal) → Refuses m command why → Refuses m command other → why ≡ other
one_refusal m (Append event) why other a b = refusal_one m.judged.concurrency m.judged.events event why other a b
one_refusal m (Rewind n) why other a b = one_reason m (Rewind n) why other (rewind_fails m n why a) (rewind_fails m n other b)
one_refusal m (SetModel key kind) why other a b = absurd a
one_refusal m (SetBudget key n) why other a b = one_reason m (SetBudget key n) why other (budget_fails m key n why a) (budget_fails m key n other b)
one_refusal m Ask why other a b = absurd a
one_refusal m (Draw thread) why other a b = one_reason m (Draw thread) why other (draw_fails m thread why a) (draw_fails m thread other b)
one_refusal m (Serve number) why other a b = one_reason m (Serve number) why other (serve_fails m number why a) (serve_fails m number other b)
one_refusal m (Finish number) why other a b = one_reason m (Finish number) why other (finish_fails m number why a) (finish_fails m number other b)
one_refusal m Nemesis why other a b = one_reason m Nemesis why other (nemesis_fails m why a) (nemesis_fails m other b)

draw_passes : (m : Machine) (thread : ℕ) → ThreadMayDraw m thread → Passes m (Draw thread)
draw_passes m thread may = (may.0, (may.1, (may.2, (may.3, tt))))

passes : (m new : Machine) (command : Command) (reply : Reply) → Replies m command reply new → Passes m command
passes m new (Append event) reply may = tt
passes m new (Rewind n) (Says v) may = (may.0, tt)
passes m new (SetModel key kind) reply may = tt
passes m new (SetBudget key n) (Says v) may = (may.0, tt)
passes m new Ask reply may = tt
passes m new (Draw thread) (HasDrawn ticket index) may = draw_passes m thread may.0
passes m new (Draw thread) IsPending may = draw_passes m thread may.0
passes m new (Draw thread) IsDone may = draw_passes m thread may.0
passes m new (Serve number) (Served outcome) may =
    ((may.0, may.1), (of_each Unserved m number may.0 may.1 may.2.0, (of_each (StillOpenIn m) m number may.0 may.1 may.2.1, tt)))
passes m new (Finish number) (Says v) may = (
  (may.0.0, may.0.1),
  (of_each WasServed m number may.0.0 may.0.1 (ap is_some may.0.2.1), (may.0.2.3.2, (of_each (StillOpenIn m) m number may.0.0 may.0.1 may.0.2.2, tt))),
)
passes m new Nemesis (Struck fault index) may = ((fault, may.1.0, may.1.1), (may.1.2.2, tt))
passes m new command reply may = absurd may

-- a command that fails a test is not answered
stands : (m new : Machine) (command : Command) (reply : Reply) (why : Refusal) → Replies m command reply new → Fails m command why → ⊥
stands m new command reply why may fails = not_refused (tests m command) (count command) (why_of command) why fails (passes m new command reply may)

event_stands : (m new : Machine) (event : _) (reply : Reply) (why : Refusal) → Replies m (Append event) reply new → Refuses m (Append event) why → ⊥
event_stands m new event (Says v) why may not = well_formed_stands m.judged.concurrency m.judged.events event why may.0 not
event_stands m new event reply why may not = absurd may

pub answered_stands : (m new : Machine) (command : Command) (reply : Reply) (why : Refusal) → Replies m command reply new → Refuses m command why → ⊥
answered_stands m new (Append event) reply why may not = event_stands m new event reply why may not
answered_stands m new (Rewind n) reply why may not = stands m new (Rewind n) reply why may (rewind_fails m n why not)
answered_stands m new (SetModel key kind) reply why may not = absurd not
answered_stands m new (SetBudget key n) reply why may not = stands m new (SetBudget key n) reply why may (budget_fails m key n why not)
answered_stands m new Ask reply why may not = absurd not
answered_stands m new (Draw thread) reply why may not = stands m new (Draw thread) reply why may (draw_fails m thread why not)
answered_stands m new (Serve number) reply why may not = stands m new (Serve number) reply why may (serve_fails m number why not)
answered_stands m new (Finish number) reply why may not = stands m new (Finish number) reply why may (finish_fails m number why not)
answered_stands m new Nemesis reply why may not = stands m new Nemesis reply why may (nemesis_fails m why not)
