-- A command that is prepared in the parts is prepared in the whole
use Rattle.std.proofs.Common.{◌≡◌, ℕ, ◌≤◌, None, IfSome, Result, Ok, Err, List, length, refl, sym, ap, subst}
use Rattle.std.specs.Prelude.{IsErrAnd}
use Rattle.std.proofs.lemmas.Result.{err_from_is_err_and}
use Rattle.edn.specs.declared.refusal.Refusal.{Refusal}
use Rattle.edn.specs.declared.refusal.Refusal.TheVariants.{NoMemory}
use Rattle.kinds.specs.declared.model_kind.ModelKind.{ModelKind}
use Rattle.events.specs.declared.event.Event.{Event}
use Rattle.events.specs.declared.event.Fault.{Fault}
use Rattle.history.specs.WellFormed.{HistoryView}
use Rattle.linspec.specs.declared.verdict.Verdict.{Verdict}
use Rattle.generators.specs.Sources.{SourceView}
use Rattle.test_store.specs.Store.{StoreView}
use Rattle.machine.specs.declared.ticket.Ticket.{Ticket}
use Rattle.linspec.specs.JudgedHistory.{JudgedHistory, IsVerdictOn, IsBudget, with_event, rewound, with_kind, with_budget}
use Rattle.monitor.specs.Monitors.{MonitorView, Admits}
use Rattle.monitor.specs.Monitors.{at_rest as monitor_at_rest}
use Rattle.monitor.specs.Monitors.{with_next as monitor_with_next}
use Rattle.machine.specs.declared.command.Command.{Command}
use Rattle.machine.specs.declared.command.Command.TheVariants.{Append, Rewind, SetModel, SetBudget, Verdict as Ask}
use Rattle.machine.specs.declared.command.Reply.{Reply}
use Rattle.machine.specs.declared.command.Reply.TheVariants.{Verdict as Says}
use Rattle.machine.specs.Machine.{Machine, MayStep, cut_to}
use Rattle.harness.specs.declared.change.Change.{Change}
use Rattle.harness.specs.declared.change.Change.TheVariants.{Nothing, Same, Judged, Rewind as Cut}
use Rattle.harness.specs.CoreView.{CoreView, at_rest, IsPrepared, MayPrepare, MayWantMemory, MayDecline}
use Rattle.harness.specs.SoundCore.{machine_of, judged_as, next_of, IsSoundMachine, IsReady, IsSoundCore}
use Rattle.harness.specs.Tickets.{IsOf}
use Rattle.harness.proofs.Showing.{Shows}
use Rattle.harness.proofs.Sound.{sound_step}

-- the result of preparing a command
abbrev Prepared : Type 0
Prepared = Result (Reply × Verdict) Refusal

-- the visible state of the parts
abbrev pub seen : MonitorView → SourceView → List (ℕ × Fault) → StoreView → List Ticket → Change → CoreView
seen monitor source schedule store tickets change = record {
  machine = machine_of monitor source schedule store tickets;
  next = next_of monitor source store (machine_of monitor source schedule store tickets) change;
}

-- nothing is prepared, and the machine is as it was
pub unchanged : (monitor monitor' : MonitorView) (source source' : SourceView) (schedule : List (ℕ × Fault)) (store store' : StoreView) (tickets tickets' : List Ticket)
    → monitor'.now ≡ monitor.now → source' ≡ record source { next = source'.next } → store'.now ≡ store.now → tickets' ≡ tickets
    → seen monitor' source' schedule store' tickets' Nothing ≡ at_rest (machine_of monitor source schedule store tickets)
unchanged monitor monitor' source source' schedule store store' tickets tickets' judged kept stored same = λ i. at_rest (record {
  judged = judged i;
  generator = (kept i).generator;
  seed = (kept i).seed;
  place = (kept i).place;
  schedule = schedule;
  store = stored i;
  tickets = same i;
})

-- a prepared command leads to a sound machine
pub readied : (m : Machine) (new : CoreView) (command : Command) (answer : Reply × Verdict) (cap : ℕ) (change : Change) → IsSoundMachine m → IsPrepared m command answer new → IsReady cap new.machine.tickets change → IsSoundCore new.machine new.next cap change
readied m new command answer cap change s p ready = record {
  now = subst (λ (x : CoreView). IsSoundMachine x.machine) (sym p.3) s;
  then = subst (λ (x : CoreView). IfSome x.next IsSoundMachine) (sym p.3) (sound_step m p.0 command (Ok answer.0) p.1 s);
  ready = ready;
}

-- a command that is carried out at once leads to a sound machine, with nothing prepared
pub stepped : (m new : Machine) (command : Command) (reply : Reply) (cap : ℕ) → IsSoundMachine m → MayStep m command (Ok reply) new → IsSoundCore new None cap Nothing
stepped m new command reply cap s step = record { now = sound_step m new command (Ok reply) step s; then = tt; ready = tt }

module _ (monitor monitor' : MonitorView) (source : SourceView) (schedule : List (ℕ × Fault)) (store : StoreView) (tickets : List Ticket) where
  abbrev m : Machine
  m = machine_of monitor source schedule store tickets

  -- a change of the monitor alone, however many events were judged again by then
  pub judged : (h : JudgedHistory) (judged_again : ℕ) (command : Command) (v : Verdict) → MayStep m command (Ok (Says v)) (judged_as m h) → IsVerdictOn h v → monitor' ≡ monitor_with_next h (record monitor { judged_again = judged_again })
      → IsPrepared m command (Says v, v) (seen monitor' source schedule store tickets Judged)
  judged h judged_again command v step true is = (judged_as m h, step, true, ap (λ (x : MonitorView). seen x source schedule store tickets Judged) is)

  pub appended : (event : Event) (v : Verdict) → Admits monitor.now event → monitor' ≡ monitor_with_next (with_event event monitor.now) monitor → IsVerdictOn (with_event event monitor.now) v
      → IsPrepared m (Append event) (Says v, v) (seen monitor' source schedule store tickets Judged)
  appended event v may is true = judged (with_event event monitor.now) monitor.judged_again (Append event) v (may, refl, true) true is

  -- the same at once
  pub appended_at_once : (event : Event) (v : Verdict) → Admits monitor.now event → monitor' ≡ monitor_at_rest (with_event event monitor.now) monitor.judged_again → IsVerdictOn (with_event event monitor.now) v
      → MayStep m (Append event) (Ok (Says v)) (machine_of monitor' source schedule store tickets)
  appended_at_once event v may is true = (
    may,
    ap (λ (x : MonitorView). machine_of x source schedule store tickets) is,
    subst (λ (x : MonitorView). IsVerdictOn x.now v) (sym is) true,
  )

  pub kind_set : (key : ℕ) (kind : ModelKind) (judged_again : ℕ) (v : Verdict) → monitor' ≡ monitor_with_next (with_kind key kind monitor.now) (record monitor { judged_again = judged_again }) → IsVerdictOn (with_kind key kind monitor.now) v
      → IsPrepared m (SetModel key kind) (Says v, v) (seen monitor' source schedule store tickets Judged)
  kind_set key kind judged_again v is true = judged (with_kind key kind monitor.now) judged_again (SetModel key kind) v (refl, true) true is

  pub budget_set : (key n judged_again : ℕ) (v : Verdict) → IsBudget n → monitor' ≡ monitor_with_next (with_budget key n monitor.now) (record monitor { judged_again = judged_again }) → IsVerdictOn (with_budget key n monitor.now) v
      → IsPrepared m (SetBudget key n) (Says v, v) (seen monitor' source schedule store tickets Judged)
  budget_set key n judged_again v within is true = judged (with_budget key n monitor.now) judged_again (SetBudget key n) v (within, refl, true) true is

  pub was_rewound : (n judged_again : ℕ) (v : Verdict) → n ≤ length monitor.now.events → monitor' ≡ monitor_with_next (rewound n monitor.now) (record monitor { judged_again = judged_again }) → IsVerdictOn (rewound n monitor.now) v
      → IsPrepared m (Rewind n) (Says v, v) (seen monitor' source schedule store tickets (Cut n))
  was_rewound n judged_again v within is true = (cut_to n m, (within, refl, true), true, ap (λ (x : MonitorView). seen x source schedule store tickets (Cut n)) is)

-- asking leaves all as it is
pub asked_for : (monitor : MonitorView) (source : SourceView) (schedule : List (ℕ × Fault)) (store : StoreView) (tickets : List Ticket) (v : Verdict) → IsVerdictOn monitor.now v
    → IsPrepared (machine_of monitor source schedule store tickets) Ask (Says v, v) (seen monitor source schedule store tickets Same)
asked_for monitor source schedule store tickets v true = (machine_of monitor source schedule store tickets, (refl, true), true, refl)

-- the machine has the history that its monitor shows
pub is_of : (monitor : MonitorView) (source : SourceView) (schedule : List (ℕ × Fault)) (store : StoreView) (tickets shown : List Ticket) (history : HistoryView) → Shows monitor history → shown ≡ tickets
    → IsOf (machine_of monitor source schedule store tickets) history shown
is_of monitor source schedule store tickets shown history shows same = (sym shows.0, sym shows.1, sym same)

-- a command that is declined for the state of the parts
pub declines_at : (r : Prepared) (e why : Refusal) (s t new : CoreView) (command : Command) → r ≡ Err e → e ≡ why → s ≡ t → MayDecline s.machine command why → new ≡ at_rest s.machine → MayPrepare t.machine command r new
declines_at r e why s t new command is from same h rest =
    subst (λ (x : CoreView). MayPrepare x.machine command r new) same
    (subst (λ (x : Prepared). MayPrepare s.machine command x new) (sym is) (subst (MayDecline s.machine command) (sym from) h, rest))

-- the same if memory ran out
pub wants_at : (r : Prepared) (s t new : CoreView) (command : Command) → IsErrAnd r (λ e. e ≡ NoMemory) → s ≡ t → MayWantMemory s.machine command → new ≡ at_rest s.machine → MayPrepare t.machine command r new
wants_at r s t new command is same h rest = (let p = err_from_is_err_and r is in declines_at r p.0 NoMemory s t new command p.1 p.2 same h rest)
