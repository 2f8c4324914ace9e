-- Every step leaves a history
use Rattle.std.proofs.Common.{◌≡◌, ℕ, Result, Ok, Err, ◌∙◌, ap, sym, subst}
use Rattle.edn.specs.declared.refusal.Refusal.{Refusal}
use Rattle.events.specs.declared.event.Event.{Event}
use Rattle.events.specs.declared.event.Fault.{Fault}
use Rattle.history.specs.WellFormed.{IsHistoryOf}
use Rattle.history.proofs.Prefixes.{history-take}
use Rattle.generators.specs.declared.item.Item.TheVariants.{Op as AnOp}
use Rattle.generators.specs.declared.item.Asker.TheVariants.{Thread}
use Rattle.generators.specs.declared.item.Drawn.{Drawn}
use Rattle.generators.specs.declared.item.Drawn.TheVariants.{Op as Gets, Pending, Done}
use Rattle.machine.specs.Trials.{invocation, completion, strike}
use Rattle.machine.proofs.Pushes.{history-push}
use Rattle.machine.specs.declared.command.Command.{Command}
use Rattle.machine.specs.declared.command.Command.TheVariants.{Append, Rewind, SetModel, SetBudget, Verdict as Ask, Draw, Serve, Finish, Nemesis}
use Rattle.machine.specs.declared.command.Reply.{Reply}
use Rattle.machine.specs.declared.command.Reply.TheVariants.{Verdict as Says, Drawn as HasDrawn, Pending as IsPending, Done as IsDone, Served, Fault as Struck}
use Rattle.linspec.specs.JudgedHistory.{with_kind, with_budget}
use Rattle.machine.specs.Machine.{Machine, Gives, current_process, appended, cut_to, invoked_by, with_served, struck_by, Takes, Replies, MayStep}
use Rattle.machine.proofs.Moves.{MovedOn, moved_on, given, next_fault}

abbrev HasHistory : Machine → Type 0
HasHistory m = IsHistoryOf m.judged.concurrency m.judged.events

to : (m new : Machine) → new ≡ m → HasHistory m → HasHistory new
to m new is h = subst HasHistory (sym is) h

more : (m : Machine) (e : Event) → Takes m e → HasHistory m → HasHistory (appended e m)
more m e takes h = history-push m.judged.concurrency m.judged.events e h takes

declined : (old new : Machine) (thread : ℕ) (d : Drawn) → Gives old (Thread thread) d new → HasHistory old → HasHistory new
declined old new thread d gives h = (let m : MovedOn old new = given old new (Thread thread) d gives in to (moved_on old new m) new m.3 h)

struck : (old new after : Machine) (fault : Fault) → MovedOn old after → new ≡ struck_by fault after → Takes old (strike fault) → HasHistory old → HasHistory new
struck old new after fault m is takes h = to (struck_by fault (moved_on old after m)) new (is ∙ ap (struck_by fault) m.3) (more old (strike fault) takes h)

history_reply : (old new : Machine) (command : Command) (reply : Reply) → Replies old command reply new → HasHistory old → HasHistory new
history_reply old new (Append event) (Says v) may h = to (appended event old) new may.1 (more old event may.0 h)
history_reply old new (Rewind n) (Says v) may h = to (cut_to n old) new may.1 (history-take old.judged.concurrency n old.judged.events h)
history_reply old new (SetModel key kind) (Says v) may h = to (record old { judged = with_kind key kind old.judged }) new may.0 h
history_reply old new (SetBudget key n) (Says v) may h = to (record old { judged = with_budget key n old.judged }) new may.1 h
history_reply old new Ask (Says v) may h = to old new may.0 h
history_reply old new (Draw thread) (HasDrawn ticket index) may h =
    (let m : MovedOn old may.3.1 = given old may.3.1 (Thread thread) (Gets (AnOp may.3.0)) may.3.2 in
    to (invoked_by thread (current_process old thread) may.3.0 (moved_on old may.3.1 m)) new (may.3.4 ∙ ap (invoked_by thread (current_process old thread) may.3.0) m.3)
    (more old (invocation (current_process old thread) may.3.0) may.3.3 h))
history_reply old new (Draw thread) IsPending may h = declined old new thread Pending may.1 h
history_reply old new (Draw thread) IsDone may h = declined old new thread Done may.1 h
history_reply old new (Serve number) (Served outcome) may h = to (with_served number may.0 outcome may.2.2.0 old) new may.2.2.2 h
history_reply old new (Finish number) (Says v) may h =
    (let e : Event = completion may.0.0.process may.0.0.op may.0.2.0 in to (appended e old) new may.0.2.4 (more old e may.0.2.3 h))
history_reply old new Nemesis (Struck fault index) may h = struck old new may.1.0 fault (next_fault old may.1.0 fault may.1.1) may.1.3 may.1.2 h
history_reply old new command reply may h = absurd may

pub history_step : (old new : Machine) (command : Command) (outcome : Result Reply Refusal) → MayStep old command outcome new → HasHistory old → HasHistory new
history_step old new command (Ok reply) may h = history_reply old new command reply may h
history_step old new command (Err why) may h = to old new may.1 h
