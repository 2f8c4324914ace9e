-- The commands of a trial are its moves
use Rattle.std.proofs.Common.{◌≡◌, ℕ, ⊎_elim, nat_eq, unwrap_or, Option, None, Result, Ok, Err, List, [], ◌∷◌, refl, sym, ap, ◌∙◌, subst}
use Rattle.std.specs.List.{cons_option}
use Rattle.std.specs.Map.{lookup}
use Rattle.edn.specs.declared.refusal.Refusal.{Refusal}
use Rattle.models.specs.declared.operation.Op.{Op}
use Rattle.kinds.specs.declared.model_kind.ModelKind.{ModelKind}
use Rattle.events.specs.declared.event.Fault.{Fault}
use Rattle.events.specs.Events.{marks}
use Rattle.history.specs.WellFormed.{IsHistoryOf}
use Rattle.nemesis.specs.Schedules.{after_first}
use Rattle.linspec.specs.declared.verdict.Verdict.TheVariants.{Illegal}
use Rattle.linspec.specs.Orders.{Taken, IsLegalOrder, IsLinearizable, product}
use Rattle.generators.specs.declared.item.Item.TheVariants.{Op as AnOp, Fault as AFault}
use Rattle.generators.specs.declared.item.Asker.{Asker}
use Rattle.generators.specs.declared.item.Asker.TheVariants.{Thread, Nemesis as TheNemesis}
use Rattle.generators.specs.declared.item.Drawn.{Drawn}
use Rattle.generators.specs.declared.item.Drawn.TheVariants.{Op as Gets, Pending, Done}
use Rattle.generators.specs.Generators.{Generator}
use Rattle.test_store.specs.declared.outcome.Mode.{Mode}
use Rattle.test_store.specs.declared.outcome.Mode.TheVariants.{Strict}
use Rattle.test_store.specs.declared.outcome.Outcome.{Outcome}
use Rattle.test_store.specs.declared.outcome.Outcome.TheVariants.{Done as WasDone, Refused, Lost}
use Rattle.test_store.specs.Store.{IsCount}
use Rattle.machine.specs.Trials as trials
use Rattle.machine.specs.declared.ticket.Ticket.{Ticket}
use Rattle.machine.specs.Trials.{Trial, Move, MayMove, Leads, took_place, serves_of, AreOfTickets, invocation, completion, strike}
use Rattle.machine.specs.Trials.Move.{Draws, Serves, Finishes, Strikes, Stays}
use Rattle.machine.proofs.Pushes.{keyed, well_formed}
use Rattle.machine.proofs.Holding.{no_alarm, legal_order}
use Rattle.machine.proofs.Verdicts.{never_illegal}
use Rattle.machine.specs.declared.command.Command.{Command}
use Rattle.machine.specs.declared.command.Command.TheVariants.{Append, Rewind, SetModel, SetBudget, Verdict as Ask, Draw, Serve, Finish, Nemesis}
use Rattle.machine.specs.declared.command.Reply.{Reply}
use Rattle.machine.specs.declared.command.Reply.TheVariants.{Verdict as Says, Drawn as HasDrawn, Pending as IsPending, Done as IsDone, Served, Fault as Struck}
use Rattle.linspec.specs.JudgedHistory.{JudgedHistory, kind_of, budget_of, entries_in, IsVerdictOn, with_budget}
use Rattle.machine.specs.Machine.{Machine, Setup, opening, Gives, NextFault, current_process, appended, invoked_by, with_served, struck_by, Takes, Replies, MayStep, Runs, served_by, served_ticket, serves_in, IsOfTrial, AreOfTrial}

-- the machine as far as a trial goes
abbrev pub trial_of : Machine → Trial
trial_of m = record { concurrency = m.judged.concurrency; events = m.judged.events; store = m.store; tickets = m.tickets }

-- a step of a trial's command: a move, which leaves the kinds, and in which the operation of this ticket takes place, if
-- there is one
pub record IsMove (old new : Machine) (served : Option ℕ) : Type 0 where
  pub move : Move
  pub took : took_place move ≡ served
  pub may : MayMove (trial_of old) move (trial_of new)
  pub kind : new.judged.kind ≡ old.judged.kind
  pub kinds : new.judged.kinds ≡ old.judged.kinds

-- one that leaves the kinds
by_move : (old new mid : Machine) (move : Move) → new ≡ mid → mid.judged.kind ≡ old.judged.kind → mid.judged.kinds ≡ old.judged.kinds → MayMove (trial_of old) move (trial_of mid) → IsMove old new (took_place move)
by_move old new mid move is kind kinds may = record {
  move = move;
  took = refl;
  may = subst (λ (m : Machine). MayMove (trial_of old) move (trial_of m)) (sym is) may;
  kind = ap (λ (m : Machine). m.judged.kind) is ∙ kind;
  kinds = ap (λ (m : Machine). m.judged.kinds) is ∙ kinds;
}

stays : (old new : Machine) → new ≡ old → IsMove old new None
stays old new is = by_move old new old Stays is refl refl refl

-- only schedule and generator have moved on
abbrev pub MovedOn : Machine → Machine → Type 0
MovedOn old after =
    (schedule : List (ℕ × Fault)) × (generator : Generator) × (place : ℕ)
    × (after ≡ record old { schedule = schedule; generator = generator; place = place })

pub given : (old after : Machine) (asker : Asker) (drawn : Drawn) → Gives old asker drawn after → MovedOn old after
given old after asker drawn gives = (old.schedule, gives.0, gives.1, gives.3)

pub next_fault : (old after : Machine) (fault : Fault) → NextFault old fault after → MovedOn old after
next_fault old after fault next =
    ⊎_elim (λ due. (after_first old.schedule, old.generator, old.place, due.1)) (λ n. given old after TheNemesis (Gets (AFault fault)) n.1) next

-- the machine that is meant, in terms of the old one
abbrev pub moved_on : (old after : Machine) → MovedOn old after → Machine
moved_on old after m = record old { schedule = m.0; generator = m.1; place = m.2 }

draws : (old new after : Machine) (thread : ℕ) (op : Op) → MovedOn old after → Takes old (invocation (current_process old thread) op) → new ≡ invoked_by thread (current_process old thread) op after → IsMove old new None
draws old new after thread op m takes is =
    by_move old new (invoked_by thread (current_process old thread) op (moved_on old after m)) (Draws thread op) (is ∙ ap (invoked_by thread (current_process old thread) op) m.3) refl refl (takes, refl)

strikes : (old new after : Machine) (fault : Fault) → MovedOn old after → Takes old (strike fault) → new ≡ struck_by fault after → IsMove old new None
strikes old new after fault m takes is =
    by_move old new (struck_by fault (moved_on old after m)) (Strikes fault) (is ∙ ap (struck_by fault) m.3) refl refl (takes, refl)

declines : (old new : Machine) (thread : ℕ) (drawn : Drawn) → Gives old (Thread thread) drawn new → IsMove old new None
declines old new thread drawn gives = (let m : MovedOn old new = given old new (Thread thread) drawn gives in by_move old new (moved_on old new m) Stays m.3 refl refl refl)

-- the same operation takes place
same_served : (number : ℕ) (outcome : Outcome) → took_place (Serves number outcome) ≡ served_by (Serve number) (Served outcome)
same_served number (WasDone found) = refl
same_served number Refused = refl
same_served number Lost = refl

replies_move : (old new : Machine) (command : Command) (reply : Reply) → IsOfTrial command → Replies old command reply new → IsMove old new (served_by command reply)
replies_move old new (SetBudget key n) (Says v) ok may = by_move old new (record old { judged = with_budget key n old.judged }) Stays may.1 refl refl refl
replies_move old new Ask (Says v) ok may = stays old new may.0
replies_move old new (Draw thread) (HasDrawn ticket index) ok may = draws old new may.3.1 thread may.3.0 (given old may.3.1 (Thread thread) (Gets (AnOp may.3.0)) may.3.2) may.3.3 may.3.4
replies_move old new (Draw thread) IsPending ok may = declines old new thread Pending may.1
replies_move old new (Draw thread) IsDone ok may = declines old new thread Done may.1
replies_move old new (Serve number) (Served outcome) ok may =
    subst (IsMove old new) (same_served number outcome)
    (by_move old new (with_served number may.0 outcome may.2.2.0 old) (Serves number outcome) may.2.2.2 refl refl (may.0, may.1.0, may.2.0, may.2.1, (may.2.2.0, may.2.2.1, refl)))
replies_move old new (Finish number) (Says v) ok may =
    (let t : Ticket = may.0.0 in
    by_move old new (appended (completion t.process t.op may.0.2.0) old) (Finishes number) may.0.2.4 refl refl (t, may.0.2.0, may.0.1.0, may.0.2.1, may.0.2.2, may.0.2.3, refl))
replies_move old new Nemesis (Struck fault index) ok may = strikes old new may.1.0 fault (next_fault old may.1.0 fault may.1.1) may.1.2 may.1.3
replies_move old new (Append event) reply ok may = absurd ok
replies_move old new (Rewind n) reply ok may = absurd ok
replies_move old new (SetModel key kind) reply ok may = absurd ok
replies_move old new command reply ok may = absurd may

pub is_move : (old new : Machine) (command : Command) (outcome : Result Reply Refusal) → IsOfTrial command → MayStep old command outcome new → IsMove old new (served_ticket command outcome)
is_move old new command (Ok reply) ok may = replies_move old new command reply ok may
is_move old new command (Err why) ok may = stays old new may.1

-- a run of such commands is a list of moves, in which the same operations take place
record AreMoves (m end : Machine) (served : List ℕ) : Type 0 where
  moves : List Move
  leads : Leads (trial_of m) moves (trial_of end)
  serves : serves_of moves ≡ served
  kind : end.judged.kind ≡ m.judged.kind
  kinds : end.judged.kinds ≡ m.judged.kinds

are_moves : (run : List (Command × Result Reply Refusal)) (m end : Machine) → AreOfTrial run → Runs m run end → AreMoves m end (serves_in run)
are_moves [] m end ok runs = record {
  moves = [];
  leads = ap trial_of runs;
  serves = refl;
  kind = ap (λ (x : Machine). x.judged.kind) (sym runs);
  kinds = ap (λ (x : Machine). x.judged.kinds) (sym runs);
}
are_moves (x ∷ run) m end ok runs =
    let a : IsMove m runs.0 (served_ticket x.0 x.1) = is_move m runs.0 x.0 x.1 ok.0 runs.1 in
    let b : AreMoves runs.0 end (serves_in run) = are_moves run runs.0 end ok.1 runs.2 in
    record {
      moves = a.move ∷ b.moves;
      leads = (trial_of runs.0, a.may, b.leads);
      serves = λ i. cons_option (a.took i) (b.serves i);
      kind = b.kind ∙ a.kind;
      kinds = b.kinds ∙ a.kinds;
    }

-- no kind was set
one_kind : (h : JudgedHistory) (kind : ModelKind) → h.kinds ≡ [] → h.kind ≡ kind → kind_of h ≡ (λ (key : ℕ). kind)
one_kind h kind none is = λ i key. unwrap_or (lookup (nat_eq key) (none i)) (is i)

-- the trial of a strict store that the run is
record IsTrial (setup : Setup) (m : Machine) (served : List ℕ) : Type 0 where
  moves : List Move
  leads : Leads (trials.opening setup.concurrency setup.replicas setup.kind) moves (trial_of m)
  serves : serves_of moves ≡ served
  kinds : kind_of m.judged ≡ (λ (key : ℕ). setup.kind)

is_trial : (setup : Setup) (run : List (Command × Result Reply Refusal)) (m : Machine) → setup.mode ≡ Strict → AreOfTrial run → Runs (opening setup) run m → IsTrial setup m (serves_in run)
is_trial setup run m strict ok runs =
    (let a : AreMoves (opening setup) m (serves_in run) = are_moves run (opening setup) m ok runs in
    let begins : trial_of (opening setup) ≡ trials.opening setup.concurrency setup.replicas setup.kind = ap (λ (mode : Mode). trial_of (opening (record setup { mode = mode }))) strict in
    record { moves = a.moves; leads = subst (λ (t : Trial). Leads t a.moves (trial_of m)) begins a.leads; serves = a.serves; kinds = one_kind m.judged setup.kind a.kinds a.kind })

-- a legal order of the history, by the operations of these tickets
abbrev pub OrderedBy : Machine → List ℕ → (ℕ → ModelKind) → Type 0
OrderedBy m numbers kinds = (order : List Taken) × (s : (product kinds).State) × IsLegalOrder (product kinds) (marks (entries_in m.judged)) order s × AreOfTickets m.tickets numbers order

module _ (setup : Setup) (run : List (Command × Result Reply Refusal)) (m : Machine) (strict : setup.mode ≡ Strict) (count : IsCount setup.replicas) (ok : AreOfTrial run) (runs : Runs (opening setup) run m) where
  pub ordered : OrderedBy m (serves_in run) (kind_of m.judged)
  ordered =
      (let t : IsTrial setup m (serves_in run) = is_trial setup run m strict ok runs in
      let o : OrderedBy m (serves_of t.moves) (λ _. setup.kind) = legal_order setup.concurrency setup.replicas setup.kind t.moves (trial_of m) count t.leads in
      subst (OrderedBy m (serves_in run)) (sym t.kinds) (subst (λ numbers. OrderedBy m numbers (λ _. setup.kind)) t.serves o))

  pub linearizable : IsLinearizable (product (kind_of m.judged)) (marks (entries_in m.judged))
  linearizable = (ordered.0, ordered.1, ordered.2)

  pub not_illegal : (key index : ℕ) → IsVerdictOn m.judged (Illegal key index) → ⊥
  not_illegal key index v =
      (let t : IsTrial setup m (serves_in run) = is_trial setup run m strict ok runs in
      let h : IsHistoryOf m.judged.concurrency m.judged.events = (no_alarm setup.concurrency setup.replicas setup.kind t.moves (trial_of m) count t.leads).1 in
      never_illegal (kind_of m.judged) (budget_of m.judged) (entries_in m.judged) (keyed m.judged.concurrency m.judged.events h) (well_formed m.judged.concurrency m.judged.events h) linearizable key index v)
