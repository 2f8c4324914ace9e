-- Every step keeps the tickets
use Rattle.std.proofs.Common.{◌≡◌, ℕ, ◌%◌, Result, Ok, Err, [], ◌∷◌, ◌∙◌, ap, sym, subst}
use Rattle.edn.specs.declared.refusal.Refusal.{Refusal}
use Rattle.events.specs.declared.event.Event.{Event}
use Rattle.events.specs.declared.event.Fault.{Fault}
use Rattle.generators.specs.declared.item.Item.TheVariants.{Op as AnOp}
use Rattle.generators.specs.declared.item.Asker.TheVariants.{Thread}
use Rattle.generators.specs.declared.item.Drawn.{Drawn}
use Rattle.generators.specs.declared.item.Drawn.TheVariants.{Op as Gets, Pending, Done}
use Rattle.machine.specs.Trials.{completion, strike}
use Rattle.machine.specs.declared.ticket.Ticket.{Ticket}
use Rattle.machine.specs.declared.command.Command.{Command}
use Rattle.machine.specs.declared.command.Command.TheVariants.{Append, Rewind, SetModel, SetBudget, Verdict as Ask, Draw, Serve, Finish, Nemesis}
use Rattle.machine.specs.declared.command.Reply.{Reply}
use Rattle.machine.specs.declared.command.Reply.TheVariants.{Verdict as Says, Drawn as HasDrawn, Pending as IsPending, Done as IsDone, Served, Fault as Struck}
use Rattle.linspec.specs.JudgedHistory.{with_kind, with_budget}
use Rattle.machine.specs.Machine.{Machine, Gives, current_process, appended, cut_to, invoked_by, with_served, struck_by, Replies, MayStep}
use Rattle.machine.specs.Tickets.{AreTickets}
use Rattle.machine.proofs.Moves.{MovedOn, moved_on, given, next_fault}
use Rattle.machine.proofs.Tickets.{more_events, drawn, served, serve_answers, cut}

abbrev Have : Machine → Type 0
Have m = AreTickets m.judged.concurrency m.judged.events m.tickets

to : (m new : Machine) → new ≡ m → Have m → Have new
to m new is h = subst Have (sym is) h

more : (m : Machine) (e : Event) → Have m → Have (appended e m)
more m e h = more_events m.judged.concurrency m.judged.events (e ∷ []) m.tickets h

declined : (old new : Machine) (thread : ℕ) (d : Drawn) → Gives old (Thread thread) d new → Have old → Have new
declined old new thread d gives h = (let m : MovedOn old new = given old new (Thread thread) d gives in to (moved_on old new m) new m.3 h)

struck : (old new after : Machine) (fault : Fault) → MovedOn old after → new ≡ struck_by fault after → Have old → Have new
struck old new after fault m is h = to (struck_by fault (moved_on old after m)) new (is ∙ ap (struck_by fault) m.3) (more old (strike fault) h)

tickets_reply : (old new : Machine) (command : Command) (reply : Reply) → Replies old command reply new → Have old → Have new
tickets_reply old new (Append event) (Says v) may h = to (appended event old) new may.1 (more old event h)
tickets_reply old new (Rewind n) (Says v) may h = to (cut_to n old) new may.1 (cut old.judged.concurrency old.judged.events old.tickets n h)
tickets_reply old new (SetModel key kind) (Says v) may h = to (record old { judged = with_kind key kind old.judged }) new may.0 h
tickets_reply old new (SetBudget key n) (Says v) may h = to (record old { judged = with_budget key n old.judged }) new may.1 h
tickets_reply old new Ask (Says v) may h = to old new may.0 h
tickets_reply old new (Draw thread) (HasDrawn ticket index) may h =
    (let m : MovedOn old may.3.1 = given old may.3.1 (Thread thread) (Gets (AnOp may.3.0)) may.3.2 in
    to (invoked_by thread (current_process old thread) may.3.0 (moved_on old may.3.1 m)) new (may.3.4 ∙ ap (invoked_by thread (current_process old thread) may.3.0) m.3)
    (drawn old.judged.concurrency old.judged.events old.tickets thread may.3.0 may.0.0 may.3.3.0 h))
tickets_reply old new (Draw thread) IsPending may h = declined old new thread Pending may.1 h
tickets_reply old new (Draw thread) IsDone may h = declined old new thread Done may.1 h
tickets_reply old new (Serve number) (Served outcome) may h =
    (let t : Ticket = may.0 in
    to (with_served number t outcome may.2.2.0 old) new may.2.2.2
    (served old.judged.concurrency old.judged.events old.tickets number t outcome may.1.0 (serve_answers old.store may.2.2.0 (t.thread % old.store.replicas) t.op outcome may.2.2.1) h))
tickets_reply old new (Finish number) (Says v) may h =
    (let e : Event = completion may.0.0.process may.0.0.op may.0.2.0 in to (appended e old) new may.0.2.4 (more old e h))
tickets_reply old new Nemesis (Struck fault index) may h = struck old new may.1.0 fault (next_fault old may.1.0 fault may.1.1) may.1.3 h
tickets_reply old new command reply may h = absurd may

pub tickets_step : (old new : Machine) (command : Command) (outcome : Result Reply Refusal) → MayStep old command outcome new → Have old → Have new
tickets_step old new command (Ok reply) may h = tickets_reply old new command reply may h
tickets_step old new command (Err why) may h = to old new may.1 h
